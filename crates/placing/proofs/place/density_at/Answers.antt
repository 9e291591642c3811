-- `density_at` meets its contract: the value that the lookup promises, whether it is granted or not. Assumes nothing.
use mathlib.Core.Path.{refl}
use Rattle.placing.proofs.Placing.{density_granted, density_refused}
use Rattle.placing.proofs.place.density_at.Goals as goal

pub returns-in-Ok : goal.returns-in-Ok
returns-in-Ok c =
    density_granted _ c.in-Ok.ensures refl

pub returns-in-Err : goal.returns-in-Err
returns-in-Err c =
    density_refused _ c.in-Err.ensures refl
