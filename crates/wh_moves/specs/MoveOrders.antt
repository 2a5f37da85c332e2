-- The order of moves is total, and ties no two moves, so equal moves are hashed alike. The laws of a type cite this.
use Rattle.std.specs.Prelude.{◌≡◌, ℕ, List, [], ◌∷◌, IsTrue, refl}
use Rattle.std.proofs.Common.{ap, ◌∙◌, subst}
use Rattle.std.proofs.lemmas.Bool.{true≢false}
use Rattle.std.specs.Cmp.{IsTotalOrder, on_total, then_total, nat_cmp_total}
use Rattle.std.specs.Cmp.Lexicographic.{slice_cmp, nat_list_cmp_total}
use Rattle.std.specs.FinMap.{nat_cmp-IsAntisymmetric, slice_cmp-IsAntisymmetric}
use Rattle.std.specs.Ordering.{is_lt, is_gt, eq_by_cmp, nat_cmp, ordering_then}
use Rattle.std.specs.declared.cmp.Ordering.{Ordering}
use Rattle.std.specs.declared.cmp.Ordering.TheVariants.{Less, Equal, Greater}
use Rattle.wh_words.specs.TupleTies.{then_equal, equal_then_tied}
use Rattle.wh_words.specs.Moves.{Kind, Move, kind_cmp, move_cmp}
use Rattle.wh_words.specs.Moves.Kind.{swap, invert, cut}
use Rattle.wh_moves.specs.Packing.{hash_writes}

pub then_nothing : (o : Ordering) → ordering_then o Equal ≡ o
then_nothing Less = refl
then_nothing Equal = refl
then_nothing Greater = refl

-- A kind as a row of numbers, whose order is that of kinds.
kind_row : Kind → List ℕ
kind_row (swap k) = 0 ∷ k ∷ []
kind_row (invert k) = 1 ∷ k ∷ []
kind_row (cut a set) = 2 ∷ a ∷ set ∷ []

kind_rows : (k l : Kind) → slice_cmp nat_cmp (kind_row k) (kind_row l) ≡ kind_cmp k l
unfolding kind_row
kind_rows (swap j) (swap k) = then_nothing (nat_cmp j k)
kind_rows (swap j) (invert k) = refl
kind_rows (swap j) (cut b t) = refl
kind_rows (invert j) (swap k) = refl
kind_rows (invert j) (invert k) = then_nothing (nat_cmp j k)
kind_rows (invert j) (cut b t) = refl
kind_rows (cut a s) (swap k) = refl
kind_rows (cut a s) (invert k) = refl
kind_rows (cut a s) (cut b t) = ap (ordering_then (nat_cmp a b)) (then_nothing (nat_cmp s t))

kind_cmp_total : IsTotalOrder kind_cmp
kind_cmp_total = subst (λ (R : Kind → Kind → Ordering). IsTotalOrder R) (λ i k l. kind_rows k l i) (on_total kind_row nat_list_cmp_total)

pub move_cmp_total : IsTotalOrder move_cmp
move_cmp_total = then_total (on_total (λ (m : Move). m.rank) nat_cmp_total) (on_total (λ (m : Move). m.kind) kind_cmp_total)

same_kind : (k l : Kind) → kind_cmp k l ≡ Equal → k ≡ l
same_kind (swap j) (swap k) e = ap swap (nat_cmp-IsAntisymmetric j k e)
same_kind (swap j) (invert k) e = absurd (true≢false (ap is_lt e))
same_kind (swap j) (cut b t) e = absurd (true≢false (ap is_lt e))
same_kind (invert j) (swap k) e = absurd (true≢false (ap is_gt e))
same_kind (invert j) (invert k) e = ap invert (nat_cmp-IsAntisymmetric j k e)
same_kind (invert j) (cut b t) e = absurd (true≢false (ap is_lt e))
same_kind (cut a s) (swap k) e = absurd (true≢false (ap is_gt e))
same_kind (cut a s) (invert k) e = absurd (true≢false (ap is_gt e))
same_kind (cut a s) (cut b t) e =
    let both : (nat_cmp a b ≡ Equal) × (nat_cmp s t ≡ Equal) = then_equal (nat_cmp a b) (nat_cmp s t) e in
    ap (λ x. cut x s) (nat_cmp-IsAntisymmetric a b both.0) ∙ ap (cut b) (nat_cmp-IsAntisymmetric s t both.1)

-- Moves that the order ties are one move.
pub same_move : (m n : Move) → move_cmp m n ≡ Equal → m ≡ n
same_move m n e =
    let both : (nat_cmp m.rank n.rank ≡ Equal) × (kind_cmp m.kind n.kind ≡ Equal) = then_equal (nat_cmp m.rank n.rank) (kind_cmp m.kind n.kind) e in
    ap (λ (r : ℕ). record { rank = r; kind = m.kind }) (nat_cmp-IsAntisymmetric m.rank n.rank both.0)
    ∙ ap (λ (k : Kind). record { rank = n.rank; kind = k }) (same_kind m.kind n.kind both.1)

-- Lists of moves that the order ties are one list.
pub same_moves : (ms ns : List Move) → slice_cmp move_cmp ms ns ≡ Equal → ms ≡ ns
same_moves = slice_cmp-IsAntisymmetric same_move

pub move_hash_respects_eq : (m n : Move) → IsTrue (eq_by_cmp move_cmp m n) → hash_writes m ≡ hash_writes n
move_hash_respects_eq m n h = ap hash_writes (same_move m n (equal_then_tied (move_cmp m n) h))
