-- What presents a stabiliser is refused at a line by the lines up to it: for the law on refused lines.
use Rattle.std.proofs.Common.{ℕ, ◌-◌, Bool, true, false, cond, List, length, Result, Ok, Err}
use Rattle.std.specs.Prelude.{◌&&◌, codes}
use Rattle.wh_words.specs.Limits.{most_level_edges, most_relators}
use Rattle.wh_words.specs.Tuples.{TupleData}
use Rattle.wh_lines.specs.declared.read_error.ReadError.{ReadError}
use Rattle.wh_lines.specs.declared.read_error.ReadError.TheVariants as errors
use Rattle.wh_lines.specs.Lines.{are}
use Rattle.wh_lines.specs.Readings.{◌>>=◌, or_bad_line}
use Rattle.wh_lines.specs.KeptLines.{Rest}
use Rattle.wh_lines.specs.KeptLines.Rest.{line, bad_byte, end}
use Rattle.wh_lines.specs.LineReadings.{Reading, times}
use Rattle.wh_lines.proofs.LocalReadings.{Agree, same, ends, beyond, Beyond, Past, Alike, refused, past, Local, local_none, local_then, local_head, local_line, local_times, bad_line_is}
use Rattle.wh_fields.specs.StabiliserFields.{tree_edge_in, generator_in, relator_in}
use Rattle.wh_text.specs.Certificates.{number_in, is_undecided_in, unless_undecided, tree_edge_after, generator_after, relator_after, counted_after, parts_with, parts_after}

-- ---- lines
local_tree_edge : (l n : ℕ) → Local l (tree_edge_after n)
unfolding tree_edge_after
local_tree_edge l n = local_line l (codes "tree") (λ k. or_bad_line k.number (tree_edge_in n k.fields)) (λ k m e. bad_line_is k.number m (tree_edge_in n k.fields) e)

local_generator : (l n : ℕ) → Local l (generator_after n)
unfolding generator_after
local_generator l n = local_line l (codes "generator") (λ k. or_bad_line k.number (generator_in n k.fields)) (λ k m e. bad_line_is k.number m (generator_in n k.fields) e)

local_relator : (l n : ℕ) → Local l (relator_after n)
unfolding relator_after
local_relator l n = local_line l (codes "relator") (λ k. or_bad_line k.number (relator_in n k.fields)) (λ k m e. bad_line_is k.number m (relator_in n k.fields) e)

local_counted : {A : Type 0} (l : ℕ) (keyword : List ℕ) (most : ℕ) (each : Reading → Result (A × Reading) ReadError) → Local l each → Local l (counted_after keyword most each)
local_counted l keyword most each h =
    local_head l keyword (λ k. or_bad_line k.number (number_in 0 most k.fields)) (λ a. times each a.0 a.1) (λ k m e. bad_line_is k.number m (number_in 0 most k.fields) e) (λ size. local_times l each size h)

-- ---- what presents a stabiliser
pub local_parts : (l n : ℕ) (u : TupleData) (vs : List TupleData) → Local l (parts_after n u vs)
unfolding parts_after
local_parts l n u vs =
    local_then l (times (tree_edge_after n) (length vs - 1))
    (λ es. counted_after (codes "generators") most_level_edges (generator_after n) es.1 >>= λ gs. counted_after (codes "relators") most_relators (relator_after n) gs.1 >>= λ rs. Ok (parts_with u vs es.0 gs.0 rs.0, rs.1))
    (local_times l (tree_edge_after n) (length vs - 1) (local_tree_edge l n))
    (λ es. local_then l (counted_after (codes "generators") most_level_edges (generator_after n)) (λ gs. counted_after (codes "relators") most_relators (relator_after n) gs.1 >>= λ rs. Ok (parts_with u vs es gs.0 rs.0, rs.1))
    (local_counted l (codes "generators") most_level_edges (generator_after n) (local_generator l n))
    (λ gs. local_then l (counted_after (codes "relators") most_relators (relator_after n)) (λ rs. Ok (parts_with u vs es gs rs.0, rs.1)) (local_counted l (codes "relators") most_relators (relator_after n) (local_relator l n))
    (λ rs. local_none l (parts_with u vs es gs rs))))

-- ---- unless it is undecided
undecided_far : {A : Type 0} (l : ℕ) (r : Rest) (x : Result (A × Reading) ReadError) → Past l x → Past l (unless_undecided r x)
undecided_far l (line k later) x h = by (are k.keyword (codes "verdict") && is_undecided_in k.fields)
  where
    by : (t : Bool) → Past l (cond t (Err (errors.NoCertificate k.number)) x)
    by true = λ never. absurd (cc)
    by false = h
undecided_far l (bad_byte m c) x h = h
undecided_far l (end m) x h = h

undecided_alike : {A : Type 0} (l : ℕ) (r s : Rest) (x y : Result (A × Reading) ReadError) → Agree l r s → Alike l x y → (Beyond l r → Past l x) → Alike l (unless_undecided r x) (unless_undecided s y)
undecided_alike l r s x y (same k {r = later} {s = more} h) a far = by (are k.keyword (codes "verdict") && is_undecided_in k.fields)
  where
    by : (t : Bool) → Alike l (cond t (Err (errors.NoCertificate k.number)) x) (cond t (Err (errors.NoCertificate k.number)) y)
    by true = refused (errors.NoCertificate k.number) (errors.NoCertificate k.number)
    by false = a
undecided_alike l r s x y (ends m) a far = a
undecided_alike l r s x y (beyond h) a far = past (unless_undecided r x) (unless_undecided s y) (undecided_far l r x (far h))

pub local_undecided : {A : Type 0} (l : ℕ) (read : Reading → Result (A × Reading) ReadError) → Local l read → Local l (λ p. unless_undecided p.rest (read p))
local_undecided l read h = record {
  alike = λ p q a. undecided_alike l p.rest q.rest (read p) (read q) a (h.alike p q a) (h.far p);
  far = λ p b. undecided_far l p.rest (read p) (h.far p b);
}
