use Rattle.std.proofs.Common.{refl}
use Rattle.dpl_check.proofs.Windows.{of-everyone}
use Rattle.dpl_check.proofs.window.has.Goals as goal

pub returns-in-Some : goal.returns-in-Some
returns-in-Some c = (λ h. of-everyone _ _ _ c.in-Some.ensures.some, λ h. refl)
