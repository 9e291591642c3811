-- `magnitude_of` meets its contract: each arm is a range of the exponent, and a law of `proofs/Narrow.antt`. Assumes
-- nothing.
use Rattle.rounding.proofs.Narrow.{over_gives, normal_gives, low_asks, low_gives, none_gives}
use Rattle.rounding.proofs.magnitude_of.Goals as goal

pub returns-then-bits-ge5183643171103440896-clause-nearest : goal.returns-then-bits-ge5183643171103440896-clause-nearest
returns-then-bits-ge5183643171103440896-clause-nearest c =
    (over_gives c.args.bits c.if-bits-ge5183643171103440896.true c.requires).1

pub returns-then-bits-ge4039728865751334912-clause-nearest : goal.returns-then-bits-ge4039728865751334912-clause-nearest
returns-then-bits-ge4039728865751334912-clause-nearest c =
    (normal_gives c.args.bits c.nearest_even_quotient.result c.if-bits-ge4039728865751334912.true
    c.if-bits-ge5183643171103440896.false c.nearest_even_quotient.ensures).1

pub nearest_quotient-requires-clause-some : goal.nearest_quotient-requires-clause-some
nearest_quotient-requires-clause-some c = (low_asks c.args.bits c.if-bits-ge3931642474694443008.true).0

pub nearest_quotient-requires-clause-d_small : goal.nearest_quotient-requires-clause-d_small
nearest_quotient-requires-clause-d_small c = (low_asks c.args.bits c.if-bits-ge3931642474694443008.true).1.0

pub returns-then-bits-ge3931642474694443008-clause-in_range :
    goal.returns-then-bits-ge3931642474694443008-clause-in_range
returns-then-bits-ge3931642474694443008-clause-in_range c =
    (low_gives c.args.bits c.nearest_quotient.result c.if-bits-ge3931642474694443008.true
    c.if-bits-ge4039728865751334912.false c.nearest_quotient.ensures).0

pub returns-then-bits-ge3931642474694443008-clause-nearest : goal.returns-then-bits-ge3931642474694443008-clause-nearest
returns-then-bits-ge3931642474694443008-clause-nearest c =
    (low_gives c.args.bits c.nearest_quotient.result c.if-bits-ge3931642474694443008.true
    c.if-bits-ge4039728865751334912.false c.nearest_quotient.ensures).1

pub returns-clause-nearest : goal.returns-clause-nearest
returns-clause-nearest c =
    (none_gives c.args.bits c.if-bits-ge3931642474694443008.false).1
