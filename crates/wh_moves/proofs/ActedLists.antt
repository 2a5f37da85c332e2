-- The tuples on the way of a list of moves, move by move.
use Rattle.std.proofs.Common.{◌≡◌, ℕ, ◌+◌, ◌<◌, ◌≤◌, List, [], ◌∷◌, ◌++◌, length, get_or, take, refl, sym, ap, ◌∙◌, subst, inl, inr, arith}
use Rattle.std.proofs.lemmas.Bool.{cases_lt}
use Rattle.std.proofs.lemmas.List.{take_more, take_all, length-map}
use Rattle.std.proofs.lemmas.List.Sums.{sum_by_push, sum_by-take-le}
use Rattle.std.proofs.lemmas.List.Elements.{All-get_or}
use Rattle.std.specs.List.{sum_by}
use Rattle.wh_words.specs.Limits.{most_letters}
use Rattle.wh_words.specs.Words.{IsOfRank}
use Rattle.wh_words.specs.CyclicWords.{cyclic_word, IsCyclicallyReduced}
use Rattle.wh_words.specs.Tuples.{TupleData, Tuple, IsTuple, tuple_length, with_word, in_rooms_of}
use Rattle.wh_words.specs.Moves.{Move}
use Rattle.wh_words.specs.Action.{substitute, act, act_all}
use Rattle.wh_words.proofs.CutImages.{own_reduced}
use Rattle.wh_moves.specs.Acts.{Fits, AreRoomy, IsFirstTooLong}

-- ---- a copy with much room
-- A tuple with room for as many letters as a tuple may have.
abbrev pub roomy : TupleData → Tuple
roomy t = record { plain = t; room = most_letters; word_room = length t.words }

-- The words copied so far.
abbrev pub copied : TupleData → ℕ → Tuple
copied t i = record { plain = record { rank = t.rank; words = take i t.words }; room = most_letters; word_room = length t.words }

own_word : (t : TupleData) (i : ℕ) (w : List ℕ) → IsTuple t → i < length t.words → w ≡ get_or t.words i [] → cyclic_word w ≡ w
own_word t i w is h e = subst (λ (v : List ℕ). cyclic_word v ≡ v) (sym e) (All-get_or (λ v. cyclic_word v ≡ v) t.words i [] h is.cyclic)

pub word_reduced : (t : TupleData) (i : ℕ) (w : List ℕ) → IsTuple t → i < length t.words → w ≡ get_or t.words i [] → IsCyclicallyReduced w
word_reduced t i w is h e = own_reduced w (own_word t i w is h e)

pub word_of_rank : (t : TupleData) (i : ℕ) (w : List ℕ) → IsTuple t → i < length t.words → w ≡ get_or t.words i [] → IsOfRank t.rank w
word_of_rank t i w is h e = subst (IsOfRank t.rank) (sym e) (All-get_or (IsOfRank t.rank) t.words i [] h is.of_rank)

copied_more : (t : TupleData) (i : ℕ) (w : List ℕ) → IsTuple t → i < length t.words → w ≡ get_or t.words i [] → take i t.words ++ cyclic_word w ∷ [] ≡ take (i + 1) t.words
copied_more t i w is h e = ap (λ v. take i t.words ++ v ∷ []) (own_word t i w is h e ∙ e) ∙ sym (take_more t.words i [] h)

pub word_fits : (t : TupleData) (made : Tuple) (i : ℕ) (w : List ℕ) → IsTuple t → i < length t.words → w ≡ get_or t.words i [] → made ≡ copied t i →
    tuple_length made.plain + length (cyclic_word w) ≤ made.room
word_fits t made i w is h e m =
    omega (
      arith,
      ap (λ (u : Tuple). tuple_length u.plain) m,
      ap (λ (u : Tuple). u.room) m,
      is.short,
      sum_by-take-le length t.words (i + 1),
      ap (sum_by length) (copied_more t i w is h e),
      sum_by_push length (take i t.words) (cyclic_word w),
    )

pub word_more : (t : TupleData) (made new : Tuple) (i : ℕ) (w : List ℕ) → IsTuple t → i < length t.words → w ≡ get_or t.words i [] → made ≡ copied t i →
    new ≡ with_word made (cyclic_word w) → new ≡ copied t (i + 1)
word_more t made new i w is h e m n =
    n ∙ ap (λ (u : Tuple). with_word u (cyclic_word w)) m
    ∙ ap (λ (ws : List (List ℕ)). record { plain = record { rank = t.rank; words = ws }; room = most_letters; word_room = length t.words }) (copied_more t i w is h e)

pub copied_all : (t : TupleData) → copied t (length t.words) ≡ roomy t
copied_all t =
    ap (λ (ws : List (List ℕ)). record { plain = record { rank = t.rank; words = ws }; room = most_letters; word_room = length t.words }) (take_all (length t.words) t.words (omega arith))

-- ---- the way
act_all-push : (t : TupleData) (ms : List Move) (m : Move) → act_all t (ms ++ m ∷ []) ≡ act (act_all t ms) m
act_all-push t [] m = refl
act_all-push t (n ∷ ms) m = act_all-push (act t n) ms m

act_all-more : (t : TupleData) (ms : List Move) (i : ℕ) (m : Move) → i < length ms → m ≡ get_or ms i m → act_all t (take (i + 1) ms) ≡ act (act_all t (take i ms)) m
act_all-more t ms i m h e = ap (act_all t) (take_more ms i m h ∙ ap (λ n. take i ms ++ n ∷ []) (sym e)) ∙ act_all-push t (take i ms) m

-- After i moves: the tuple now is the one that they give, all tuples so far fit, and both it and the spare one have room for every tuple.
pub record IsOnTheWay (t : TupleData) (ms : List Move) (i : ℕ) (now spare : Tuple) : Type 0 where
  pub acted : now.plain ≡ act_all t (take i ms)
  pub fits : (k : ℕ) → k ≤ i → Fits (act_all t (take k ms))
  pub rooms : AreRoomy t now spare

pub way_start : (ms : List Move) (now spare : Tuple) → Fits now.plain → AreRoomy now.plain now spare → IsOnTheWay now.plain ms 0 now spare
way_start ms now spare short rooms = record {
  acted = refl;
  fits = λ k l. (let none : 0 ≡ k = omega (arith, l) in subst (λ (j : ℕ). Fits (act_all now.plain (take j ms))) none short);
  rooms = rooms;
}

way_more : (t : TupleData) (ms : List Move) (i : ℕ) (now spare : Tuple) (m : Move) → IsOnTheWay t ms i now spare → i < length ms → m ≡ get_or ms i m → act now.plain m ≡ act_all t (take (i + 1) ms)
way_more t ms i now spare m w h e = ap (λ (d : TupleData). act d m) w.acted ∙ sym (act_all-more t ms i m h e)

pub way_step : (t : TupleData) (ms : List Move) (i : ℕ) (now spare next : Tuple) (m : Move) → IsOnTheWay t ms i now spare → i < length ms → m ≡ get_or ms i m →
    Fits (act now.plain m) → next ≡ in_rooms_of spare (act now.plain m) → IsOnTheWay t ms (i + 1) next now
way_step t ms i now spare next m w h e f n =
    let more : act now.plain m ≡ act_all t (take (i + 1) ms) = way_more t ms i now spare m w h e in
    record {
      acted = ap (λ (u : Tuple). u.plain) n ∙ more;
      fits = λ k l. elim (cases_lt k (i + 1)) [
        | inl b ↦ w.fits k (omega (arith, b))
        | inr b ↦ (let last : i + 1 ≡ k = omega (arith, l, b) in subst (λ (j : ℕ). Fits (act_all t (take j ms))) last (subst Fits more f))
      ];
      rooms = record {
        rank = ap (λ (u : Tuple). u.plain.rank) n ∙ w.rooms.rank;
        count = ap (λ (u : Tuple). length u.plain.words) n ∙ length-map now.plain.words (λ v. cyclic_word (substitute m.kind v)) ∙ w.rooms.count;
        room = ap (λ (u : Tuple). u.room) n ∙ w.rooms.spare_room;
        word_room = ap (λ (u : Tuple). u.word_room) n ∙ w.rooms.spare_word_room;
        spare_room = w.rooms.room;
        spare_word_room = w.rooms.word_room;
      };
    }

pub way_fault : (t : TupleData) (ms : List Move) (i n : ℕ) (now spare : Tuple) (m : Move) → IsOnTheWay t ms i now spare → i < length ms → m ≡ get_or ms i m →
    n ≡ tuple_length (act now.plain m) → most_letters < n → IsFirstTooLong t ms (i + 1) n
way_fault t ms i n now spare m w h e l long =
    let more : act now.plain m ≡ act_all t (take (i + 1) ms) = way_more t ms i now spare m w h e in
    record {
      within = omega (arith, h);
      count = l ∙ ap tuple_length more;
      too_long = λ f. absurd (omega (arith, f, long, l, ap tuple_length more));
      first = λ k b. w.fits k (omega (arith, b));
    }
