-- `gamma` meets its contract: its unit is at least cap, so the rounded sum is 16 bits wide. Assumes nothing.
use Rattle.gamma.specs.Gamma.{gamma}
use Rattle.gamma.proofs.gamma.Goals as goal

pub returns : goal.returns
unfolding gamma
returns c =
    cc
