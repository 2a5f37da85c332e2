-- What holds of all verdicts, as statements that contracts name.
use Rattle.std.specs.Prelude.{◌≡◌, List, Contains}
use Rattle.wh_words.specs.Tuples.{TupleData, IsTuple}
use Rattle.wh_words.specs.Moves.{Move}
use Rattle.wh_words.specs.Action.{act}
use Rattle.wh_words.specs.Levels.{IsLevelMove}
use Rattle.wh_data.specs.AnswerData.{CertificateData}
use Rattle.wh_cert.specs.declared.checked.Checked.{Checked}
use Rattle.wh_cert.specs.Checks.{Checks}
use Rattle.wh_cert.specs.Demands.{ImagesAreIn}
use Rattle.wh_cert.specs.Orbits.{PermutesLetters, OrbitsAreIn}

-- Of a certificate one thing is found.
abbrev pub FindsOne : Type 0
FindsOne = (c : CertificateData) (found other : Checked) → Checks c found → Checks c other → found ≡ other

-- Where a list is closed under swaps and inversions, and the images of one of its tuples under level moves are in it, those of each image of the tuple under a swap or an inversion are too, after Lyndon and Schupp, I.4: swaps and inversions take cuts to cuts.
abbrev pub ClosedByOrbits : Type 0
ClosedByOrbits = (ts : List TupleData) (t : TupleData) (m : Move) → IsTuple t → OrbitsAreIn ts → Contains ts t → ImagesAreIn ts t → IsLevelMove t m → PermutesLetters m.kind → ImagesAreIn ts (act t m)
