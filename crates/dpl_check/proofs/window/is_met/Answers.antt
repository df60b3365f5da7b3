use Rattle.std.proofs.Common.{refl}
use Rattle.dpl_check.proofs.Windows.{of-everyone}
use Rattle.dpl_check.proofs.window.is_met.Goals as goal

pub returns-in-Some : goal.returns-in-Some
returns-in-Some c = let (p, (a, own)) = c.in-Some.ensures.some in (λ h. (p, (a, of-everyone _ _ p own)), λ h. refl)
