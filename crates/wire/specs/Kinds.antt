-- The numbers of the kinds. They stand nowhere else in specs/, and the order of frames goes by them.
use Rattle.std.specs.Prelude.{ℕ}
use Rattle.wire.specs.declared.kind.Kind.{Kind}
use Rattle.wire.specs.declared.kind.Kind.TheVariants.{Size, Masks, Among, Word, Table, Map, Rule, Start, Decide, Bound, Mark, Back, Publish}

-- the first byte of a frame of this kind
abbrev pub kind_number : Kind → ℕ
kind_number Size = 0x01
kind_number Masks = 0x02
kind_number Among = 0x03
kind_number Word = 0x04
kind_number Table = 0x05
kind_number Map = 0x06
kind_number Rule = 0x07
kind_number Start = 0x08
kind_number Decide = 0x09
kind_number Bound = 0x0a
kind_number Mark = 0x0b
kind_number Back = 0x0c
kind_number Publish = 0x0d
