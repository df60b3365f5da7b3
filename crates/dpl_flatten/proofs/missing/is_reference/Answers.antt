use Rattle.std.proofs.Common.{refl}
use Rattle.dpl_flatten.proofs.missing.is_reference.Goals as goal

pub returns-in-Sref : goal.returns-in-Sref
returns-in-Sref c = rw c.in-Sref.is (λ _. (c.in-Sref.name.now, refl), λ _. refl)

pub returns-in-Aref : goal.returns-in-Aref
returns-in-Aref c = rw c.in-Aref.is (λ _. (c.in-Aref.name.now, refl), λ _. refl)
