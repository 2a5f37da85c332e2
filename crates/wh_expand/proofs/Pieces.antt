-- Pieces of a list in which a number doesn't stand.
use Rattle.std.proofs.Common.{◌≡◌, ◌≢◌, ℕ, ◌+◌, ◌-◌, ◌<◌, ◌==◌, ◌||◌, Bool, true, false, List, length, get_or, take, drop, refl, sym, ap, ◌∙◌, subst, inl, inr, arith}
use Rattle.std.proofs.lemmas.Bool.{cases_eq, cases_lt, true≢false, eq-eqb}
use Rattle.std.proofs.lemmas.List.{get_or-drop, get_or-take, get_or_default}
use Rattle.wh_expand.specs.Pieces.{LacksBetween}

pub lacks_none : (counts : List ℕ) (n start : ℕ) → LacksBetween counts n start start
lacks_none counts n start k h l = absurd (omega (arith, h, l))

pub lacks_more : (counts : List ℕ) (n start end : ℕ) → LacksBetween counts n start end → get_or counts end 0 ≢ n → LacksBetween counts n start (end + 1)
lacks_more counts n start end lacks other k h l = elim (cases_eq k end) [
  | inl e ↦ subst (λ (i : ℕ). get_or counts i 0 ≢ n) (sym e) other
  | inr d ↦ lacks k h (omega (arith, l, d))
]

pub lacks_then : (counts : List ℕ) (n start mid end : ℕ) → LacksBetween counts n start mid → LacksBetween counts n mid end → LacksBetween counts n start end
lacks_then counts n start mid end first second k h l = elim (cases_lt k mid) [
  | inl b ↦ first k h b
  | inr b ↦ second k b l
]

-- a piece of a list
pub lacks_piece : (counts : List ℕ) (n start size : ℕ) → LacksBetween (take size (drop start counts)) n 0 size → LacksBetween counts n start (start + size)
lacks_piece counts n start size lacks k h l =
    let there : start + (k - start) ≡ k = omega (arith, h) in
    let low : k - start < size = omega (arith, h, l) in
    let is : get_or (take size (drop start counts)) (k - start) 0 ≡ get_or counts k 0 =
    get_or-take size (drop start counts) (k - start) 0 low ∙ get_or-drop start counts (k - start) 0 ∙ ap (λ i. get_or counts i 0) there in
    subst (λ (v : ℕ). v ≢ n) is (lacks (k - start) (omega arith) low)

-- what is known after some numbers of a list
pub none_so_far : (counts : List ℕ) (n : ℕ) (found : Bool) → found ≡ false → found ≡ false → LacksBetween counts n 0 0
none_so_far counts n found e f = lacks_none counts n 0

pub one_more : (counts : List ℕ) (n k v : ℕ) (found : Bool) → (found ≡ false → LacksBetween counts n 0 k) → k < length counts → v ≡ get_or counts k v → (found || (v == n)) ≡ false → LacksBetween counts n 0 (k + 1)
one_more counts n k v true so within is h = absurd (true≢false h)
one_more counts n k v false so within is h =
    lacks_more counts n 0 k (so refl) (λ e. true≢false (sym (eq-eqb v n (is ∙ get_or_default counts k v 0 within ∙ e)) ∙ h))
