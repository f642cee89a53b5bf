-- The law of every history, from what each call and each start does.
use Rattle.std.proofs.Common.{ℕ, List}
use Rattle.families.specs.Meaning.{Meaning}
use Rattle.families.specs.Laws.{Lawful}
use Rattle.histories.specs.Calls.{Call, Answer}
use Rattle.histories.specs.Plans.{View, Run}
use Rattle.histories.specs.Law.{DraftCells, History}
use Rattle.histories.proofs.Turns.{log_one}
use Rattle.histories.proofs.Runs.{run_logged, logged_void, run_one, run_exists}
use Rattle.histories.proofs.Lost.{lost_none}
use Rattle.histories.proofs.Exact.{duty_used, count_used}
use Rattle.histories.proofs.BareRuns.{bare_agrees}

pub history_of_run : (m : Meaning) → Lawful m → (cells : List ℕ) → DraftCells cells → (a : Answer) (cs : List Call) (ys : List Answer) (p : View) → Run m cells a cs ys p → History m cells a cs ys p
history_of_run m law cells draft a cs ys p run =
    let l = run_logged m law cells draft a cs ys p run in
    record {
      run = run;
      start = l.start;
      first = l.first;
      log = l.log;
      starts = l.starts;
      first_is = l.first_is;
      log_kept = l.log_kept;
      plan_shows_log = l.plan_shows_log;
      log_is_one = λ b c zs f t. log_one m l.start l.first l.log b c cs ys zs l.first_is l.log_kept f t;
      answers_are_one = λ e zs q r. run_one m cells a cs ys p e zs q run r;
      bare_run_exists = λ es xs order bare. run_exists m law cells draft xs;
      bare_runs_agree = bare_agrees m law cells draft l.start l.starts l.first l.log cs ys p l.first_is l.log_kept l.plan_shows_log;
      no_filling_lost = lost_none m law cells l.start l.log p draft l.starts l.plan_shows_log (logged_void m cells cs ys p l);
      duty_used = duty_used m law cells l.start l.log p draft l.starts l.plan_shows_log;
      count_used = count_used m law cells l.start l.log p draft l.starts l.plan_shows_log;
    }
