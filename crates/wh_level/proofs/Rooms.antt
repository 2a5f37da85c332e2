-- Rooms for the images of rows, and the level moves of rows.
use Rattle.std.proofs.Common.{◌≡◌, ℕ, ◌<◌, List, length, get_or, refl, sym, ap, ◌∙◌, arith}
use Rattle.wh_words.specs.Tuples.{TupleData, Tuple, in_rooms_of}
use Rattle.wh_words.specs.Moves.{Move}
use Rattle.wh_words.specs.Levels.{IsLevelMove, InLevel}
use Rattle.wh_expand.specs.Rows.{AreLevelMoves}
use Rattle.wh_level.specs.PlacedTuples.{HasRoomsFor, KeepsRooms}
use Rattle.wh_moves.proofs.Walks.{reached_length, reached_words}

pub rooms_itself : (a : Tuple) → KeepsRooms a a
rooms_itself a = record { letters = refl; words = refl }

pub rooms_then : {a b c : Tuple} → KeepsRooms a b → KeepsRooms b c → KeepsRooms a c
rooms_then h k = record { letters = k.letters ∙ h.letters; words = k.words ∙ h.words }

pub rooms_of_image : {a b c : Tuple} (d : TupleData) → KeepsRooms a b → c ≡ in_rooms_of b d → KeepsRooms a c
rooms_of_image d h e = record { letters = ap (λ (x : Tuple). x.room) e ∙ h.letters; words = ap (λ (x : Tuple). x.word_room) e ∙ h.words }

pub rooms_kept : {a b : Tuple} {t : TupleData} → KeepsRooms a b → HasRoomsFor a t → HasRoomsFor b t
rooms_kept k h = record { letters = omega (arith, k.letters, h.letters); words = omega (arith, k.words, h.words); within = omega (arith, k.letters, h.within) }

pub rooms_in_level : {a : Tuple} {root t : TupleData} → HasRoomsFor a root → InLevel root t → HasRoomsFor a t
rooms_in_level h r = record { letters = omega (arith, h.letters, reached_length r.1); words = omega (arith, h.words, reached_words r.1); within = h.within }

pub item_of : (items moves : List Move) (i : ℕ) (m : Move) → items ≡ moves → m ≡ get_or items i m → m ≡ get_or moves i m
item_of items moves i m e is = is ∙ ap (λ (ms : List Move). get_or ms i m) e

pub level_at : (t : TupleData) (items moves : List Move) (i : ℕ) (m : Move) → AreLevelMoves t moves → items ≡ moves → i < length items → m ≡ get_or items i m → IsLevelMove t m
level_at t items moves i m row e within is = (row.exact m).0 (i, omega (arith, within, ap length e), sym (item_of items moves i m e is))
