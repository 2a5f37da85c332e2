-- First walks of a level, and a table of walks that holds the first one to each of its tuples.
use Rattle.std.proofs.Common.{◌≡◌, List, [], ◌∷◌, ◌++◌, Contains, sym, ap, ◌∙◌, subst}
use Rattle.std.proofs.lemmas.List.{append_assoc, append-nil}
use Rattle.wh_words.specs.Tuples.{TupleData}
use Rattle.wh_words.specs.Moves.{Move}
use Rattle.wh_words.specs.Action.{act}
use Rattle.wh_words.specs.Levels.{IsLevelMove, Reaches, IsFirstWalk}
use Rattle.wh_words.specs.Levels.Reaches.{here, step}
use Rattle.wh_level.specs.Searches.{NoLater, Stop, IsFollowed}
use Rattle.wh_level.proofs.Shortlex.{no_later_from, no_later_pushed, no_later_length, no_later_moves}

-- ---- the first walk
pub first_from : {root t : TupleData} {p : List Move} → Reaches root p t → ((q : List Move) → Reaches root q t → NoLater p q) → IsFirstWalk root t p
first_from r h = record {
  leads = r;
  shortest = λ q w. no_later_length (h q w);
  first = λ q w e. no_later_moves (h q w) e;
}

-- ---- a table of walks
-- A stop of the table whose walk is no later than this one has the tuple.
pub record IsArrived (stops : List Stop) (p : List Move) (t : TupleData) : Type 0 where
  pub stop : Stop
  pub found : Contains stops stop
  pub is : stop.tuple ≡ t
  pub early : NoLater stop.path p

-- A table in which every level move of every stop was followed.
abbrev pub IsWhole : List Stop → Type 0
IsWhole stops = (e : Stop) → Contains stops e → (m : Move) → IsLevelMove e.tuple m → IsFollowed stops e m

pub arrives : {stops : List Stop} {t u : TupleData} {ms : List Move} (p : List Move) → IsWhole stops → Reaches t ms u → IsArrived stops p t → IsArrived stops (p ++ ms) u
arrives {stops} {t} p whole here a = subst (λ (q : List Move). IsArrived stops q t) (sym (append-nil p)) a
arrives {stops} {t} {u} p whole (step {m = m} {ms = ms} l r) a =
    let f : IsFollowed stops a.stop m = whole a.stop a.found m (subst (λ (s : TupleData). IsLevelMove s m) (sym a.is) l) in
    let b : IsArrived stops (p ++ m ∷ []) (act t m) = record {
      stop = f.stop;
      found = f.found;
      is = f.is ∙ ap (λ s. act s m) a.is;
      early = no_later_from f.early (no_later_pushed m a.early);
    } in
    subst (λ (q : List Move). IsArrived stops q u) (append_assoc p (m ∷ []) ms) (arrives (p ++ m ∷ []) whole r b)
