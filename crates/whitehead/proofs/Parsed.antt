-- What the parser finds is what the words ask.
use Rattle.std.proofs.Common.{◌≡◌, ◌≢◌, List, [], ◌∷◌, ◌∙◌, ap, sym, refl, codes, Option, None, Some, inl, inr}
use Rattle.clap.specs.Words.{Row, Text, Kinds, HasKind, kind_of, first_value, rows_of, fault_of, matches_of}
use Rattle.clap.specs.declared.error.Error.{Error}
use Rattle.clap.specs.declared.error.kind.ErrorKind.TheVariants as kind
use Rattle.clap.specs.declared.parser.matches.Found.{Found}
use Rattle.clap.proofs.WalkLemmas.{first_value-rows}
use Rattle.whitehead.specs.CommandLine.{program}
use Rattle.std.specs.Option.{ok_or}
use Rattle.whitehead.specs.declared.arguments.Arguments.{Arguments}
use Rattle.whitehead.specs.declared.arguments.WordsError.TheVariants as errors
use Rattle.whitehead.specs.Asked.{asked_by, asked_unless, asked, Tells}

refused_unless : (kinds : Kinds) (rows : List Row) (e : Error) → HasKind kinds e → kind_of e ≢ kind.OutOfMemory → asked_unless kinds rows ≡ None
refused_unless [] rows e (inl h) other = absurd (other h)
refused_unless [] rows e (inr h) other = absurd h
refused_unless (k ∷ ks) rows e h other = refl

pub refused : (words : List Text) (e : Error) → HasKind (fault_of program words) e → kind_of e ≢ kind.OutOfMemory → asked words ≡ None
unfolding asked
refused words e h other = refused_unless (fault_of program words) (matches_of program words) e h other

pub asked_is : (words : List Text) (f : Found) → fault_of program words ≡ [] → rows_of f ≡ matches_of program words →
    asked words ≡ asked_by (first_value f (codes "COMMAND")) (first_value f (codes "limit")) (first_value f (codes "workers"))
unfolding asked
asked_is words f none rows =
    ap (λ ks. asked_unless ks (matches_of program words)) none
    ∙ sym (ap (asked_unless []) rows)
    ∙ rw (first_value-rows f (codes "COMMAND"), first_value-rows f (codes "limit"), first_value-rows f (codes "workers")) refl

-- A refusal stands for what asks nothing.
pub tells_found : (found asked : Option Arguments) → asked ≡ found → Tells (ok_or found errors.Refused) asked
tells_found None asked e = e
tells_found (Some a) asked e = e
