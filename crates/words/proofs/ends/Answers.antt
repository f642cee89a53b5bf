use Rattle.std.proofs.Common.{◌-◌, length, drop}
use Rattle.std.specs.Str.{bytes_eq}
use Rattle.std.proofs.lemmas.Slice.Eq.{slice_eq-Decides, bytes_eq-Decides}
use Rattle.std.proofs.lemmas.Bool.Decides.{same_from_decides, Decides-eqb}
use Rattle.words.proofs.ends.Goals as goal

pub returns : goal.returns
returns c =
    let p = c.args.p.now in
    let rest = drop (length c.args.text.now - length p) c.args.text.now in
    same_from_decides c.ends_with.result (bytes_eq p rest) (slice_eq-Decides Decides-eqb p rest c.ends_with.result c.ends_with.ensures.value) (bytes_eq-Decides p rest)
