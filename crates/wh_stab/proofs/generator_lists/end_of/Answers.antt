use Rattle.std.proofs.Common.{◌≡◌, List, map, slice_get, Some, Contains, sym, ap, subst, ◌∙◌}
use Rattle.wh_words.specs.Tuples.{TupleData, Tuple}
use Rattle.wh_words.specs.Action.{act}
use Rattle.wh_stab.proofs.ListedGenerators.{vertex_read, end_found, end_at}
use Rattle.wh_stab.proofs.generator_lists.end_of.Goals as goal

pub unwrap-requires : goal.unwrap-requires
unwrap-requires c =
    let vertex : c.index-vertices-from.result.plain ≡ c.requires.tuple =
    vertex_read c.items-vertices.result.now c.args.stab.now.vertices c.args.from c.index-vertices-from.result c.requires.tuple (sym c.items-vertices.ensures) c.index-vertices-from.is c.requires.starts in
    let end : c.in_ok-end.end.plain ≡ act c.requires.tuple c.args.via.now = ap (λ (t : Tuple). t.plain) c.in_ok-end.ensures ∙ ap (λ (t : TupleData). act t c.args.via.now) vertex in
    end_found (map (λ (t : Tuple). t.plain) c.items-vertices.result.now) c.in_ok-end.end.plain c.place_among.result c.place_among.ensures
    (subst (λ (ts : List Tuple). Contains (map (λ (t : Tuple). t.plain) ts) c.in_ok-end.end.plain) (sym c.items-vertices.ensures) (subst (Contains (map (λ (t : Tuple). t.plain) c.args.stab.now.vertices)) (sym end) c.requires.end))

pub returns : goal.returns
returns c t h =
    let vertex : c.index-vertices-from.result.plain ≡ t =
    vertex_read c.items-vertices.result.now c.args.stab.now.vertices c.args.from c.index-vertices-from.result t (sym c.items-vertices.ensures) c.index-vertices-from.is h in
    let end : c.in_ok-end.end.plain ≡ act t c.args.via.now = ap (λ (t : Tuple). t.plain) c.in_ok-end.ensures ∙ ap (λ (t : TupleData). act t c.args.via.now) vertex in
    subst (λ (ts : List Tuple). slice_get (map (λ (t : Tuple). t.plain) ts) c.unwrap.result ≡ Some (act t c.args.via.now)) c.items-vertices.ensures
    (end_at (map (λ (t : Tuple). t.plain) c.items-vertices.result.now) c.in_ok-end.end.plain c.place_among.result c.unwrap.result c.place_among.ensures c.unwrap.ensures ∙ ap Some end)
