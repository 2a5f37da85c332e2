use Rattle.wh_flow.proofs.FreshLetters.{first_of}
use Rattle.wh_flow.proofs.search.Search.next.Goals as goal

pub returns : goal.returns
returns c = first_of c.args.successors c.args.self.now.seen c.bits.result c.bits-2.result c.prefer.result c.lowest_bit.result
    c.bits.ensures c.bits-2.ensures c.bits-2.type_inv (λ e. c.prefer-near.ensures.none (c.prefer.ensures.none e)) (λ y b. c.prefer-near.ensures.part y (c.prefer.ensures.part y b)) c.lowest_bit.ensures
