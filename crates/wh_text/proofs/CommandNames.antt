-- The names of commands are told apart, and headings have them: for what is read of a heading.
use Rattle.std.proofs.Common.{◌≡◌, ◌⊎◌, inl, inr, ℕ, Bool, true, false, cond, List, [], ◌∷◌, map, refl, sym, ap, ◌∙◌, Option, Some, None, Ok, Err}
use Rattle.std.specs.Prelude.{codes}
use Rattle.std.proofs.lemmas.List.Elements.{All-nil, All-cons}
use Rattle.std.proofs.lemmas.Bool.{cond-true}
use Rattle.wh_lines.specs.declared.read_error.ReadError.TheVariants as errors
use Rattle.wh_lines.specs.Lines.{Field, are}
use Rattle.wh_lines.proofs.Equations.{ok_is, are_is, if_ok}
use Rattle.wh_lines.proofs.PrintedRows.{IsShown, IsShownRow}
use Rattle.wh_fields.proofs.ShownFields.{written_shown}
use Rattle.wh_data.specs.declared.command.Command.{Command}
use Rattle.wh_data.specs.declared.command.Command.TheVariants as commands
use Rattle.wh_data.specs.Commands.{command_name, command_named, is_checked, is_unchecked_name, answer_version, heading_row}
use Rattle.wh_text.specs.Certificates.{checked_command, command_at, heading_in}

-- ---- names
named_back : (command : Command) → command_named (command_name command) ≡ Some command
named_back commands.Reduce = refl
named_back commands.Decide = refl
named_back commands.Straighten = refl
named_back commands.Stabiliser = refl

-- the first command of two, where the name is its name, and else the second
first_told : (name : List ℕ) (first command : Command) (rest : Option Command) → cond (are name (command_name first)) (Some first) rest ≡ Some command → (name ≡ command_name command) ⊎ (rest ≡ Some command)
first_told name first command rest e = by (are name (command_name first)) refl e
  where
    by : (t : Bool) → are name (command_name first) ≡ t → cond t (Some first) rest ≡ Some command → (name ≡ command_name command) ⊎ (rest ≡ Some command)
    by true is e = let same : first ≡ command = (cc) in inl (are_is name (command_name first) is ∙ ap command_name same)
    by false is e = inr e

named_told : (name : List ℕ) (command : Command) → command_named name ≡ Some command → name ≡ command_name command
named_told name command e = elim (first_told name commands.Reduce command _ e) [
  | inl is ↦ is
  | inr e ↦ elim (first_told name commands.Decide command _ e) [
    | inl is ↦ is
    | inr e ↦ elim (first_told name commands.Straighten command _ e) [
      | inl is ↦ is
      | inr e ↦ elim (first_told name commands.Stabiliser command None e) [
        | inl is ↦ is
        | inr never ↦ absurd (cc)
      ]
    ]
  ]
]

command_back : (l : ℕ) (command : Command) → is_checked command ≡ true → command_at l (command_name command) ≡ Ok command
command_back l command checked = ap (checked_command l (command_name command)) (named_back command) ∙ cond-true (is_checked command) (Ok command) (Err (errors.NoCertificate l)) checked

command_told : (l : ℕ) (name : List ℕ) (command : Command) → command_at l name ≡ Ok command → (name ≡ command_name command) × (is_checked command ≡ true)
command_told l name command e = by (command_named name) refl e
  where
    never : (b : Bool) → cond b (Err (errors.NoCertificate l)) (Err (errors.BadLine l)) ≡ Ok command → (name ≡ command_name command) × (is_checked command ≡ true)
    never true e = absurd (cc)
    never false e = absurd (cc)

    by : (found : Option Command) → command_named name ≡ found → checked_command l name found ≡ Ok command → (name ≡ command_name command) × (is_checked command ≡ true)
    by (Some other) is e =
        let p = if_ok (is_checked other) (errors.NoCertificate l) (Ok other) command e in
        let same : other ≡ command = ok_is other command p.1 in
        (named_told name command (is ∙ ap (λ c. Some c) same), ap is_checked (sym same) ∙ p.0)
    by None is e = never (is_unchecked_name name) e

-- ---- headings
pub heading_told : (l : ℕ) (fs : List Field) (command : Command) → heading_in l fs ≡ Ok command → (map (λ f. f.bytes) fs ≡ answer_version ∷ command_name command ∷ []) × (is_checked command ≡ true)
heading_told l [] command e = absurd (cc)
heading_told l (f ∷ []) command e = absurd (cc)
heading_told l (f ∷ g ∷ []) command e =
    let p = if_ok (are f.bytes answer_version) (errors.BadLine l) (command_at l g.bytes) command e in
    let told = command_told l g.bytes command p.1 in
    (ap (λ v. v ∷ g.bytes ∷ []) (are_is f.bytes answer_version p.0) ∙ ap (λ v. answer_version ∷ v ∷ []) told.0, told.1)
heading_told l (f ∷ g ∷ h ∷ fs) command e = absurd (cc)

pub heading_back : (l : ℕ) (command : Command) (fs : List Field) → is_checked command ≡ true → map (λ f. f.bytes) fs ≡ answer_version ∷ command_name command ∷ [] → heading_in l fs ≡ Ok command
heading_back l command [] checked e = absurd (cc)
heading_back l command (f ∷ []) checked e = absurd (cc)
heading_back l command (f ∷ g ∷ []) checked e =
    let b : f.bytes ≡ answer_version = (cc) in
    let d : g.bytes ≡ command_name command = (cc) in
    ap (λ v. cond (are v answer_version) (command_at l g.bytes) (Err (errors.BadLine l))) b ∙ ap (command_at l) d ∙ command_back l command checked
heading_back l command (f ∷ g ∷ h ∷ fs) checked e = absurd (cc)

name_shown : (command : Command) → IsShown (command_name command)
name_shown commands.Reduce = written_shown 114 (codes "educe") refl
name_shown commands.Decide = written_shown 100 (codes "ecide") refl
name_shown commands.Straighten = written_shown 115 (codes "traighten") refl
name_shown commands.Stabiliser = written_shown 115 (codes "tabiliser") refl

pub heading_shown : (command : Command) → IsShownRow (heading_row command)
heading_shown command = record {
  keyword = written_shown 119 (codes "hitehead") refl;
  fields = All-cons IsShown answer_version (command_name command ∷ []) (written_shown 49 [] refl) (All-cons IsShown (command_name command) [] (name_shown command) (All-nil IsShown));
}
