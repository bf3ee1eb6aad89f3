-- Locals of blocks that stand one in another.
use Rattle.std.proofs.Common.{◌≡◌, ℕ, List, [], ◌∷◌, ◌++◌, Option, Some, None, refl, ap, ◌∙◌, sym}
use Rattle.declared_names.specs.declared.declared.Declared.{Declared}
use Rattle.module_scope.specs.declared.frames.InForce.{InForce}
use Rattle.module_scope.specs.declared.frames.Local.{Local}
use Rattle.module_scope.specs.Sees.{local_in, local_named, or_inner, local_or, outside}
use Rattle.module_scope.specs.Innermost.{NoneHas, InnermostFirst}

or_inner-none : (x : Option Local) → or_inner x None ≡ x
or_inner-none (Some x) = refl
or_inner-none None = refl

or_inner-assoc : (x y z : Option Local) → or_inner (or_inner x y) z ≡ or_inner x (or_inner y z)
or_inner-assoc (Some x) y z = refl
or_inner-assoc None y z = refl

-- the blocks further in come first
pub local_named-append : (name : List ℕ) (outer inner : List InForce) → local_named name (outer ++ inner) ≡ or_inner (local_named name inner) (local_named name outer)
local_named-append name [] inner = sym (or_inner-none (local_named name inner))
local_named-append name (b ∷ bs) inner = ap (λ o. or_inner o (local_in name b)) (local_named-append name bs inner) ∙ or_inner-assoc (local_named name inner) (local_named name bs) (local_in name b)

-- with one block more, which is the innermost
pub local_named-last : (name : List ℕ) (outer : List InForce) (b : InForce) → local_named name (outer ++ b ∷ []) ≡ or_inner (local_in name b) (local_named name outer)
local_named-last name outer b = local_named-append name outer (b ∷ [])

none_named : (name : List ℕ) (bs : List InForce) → NoneHas name bs → local_named name bs ≡ None
none_named name [] h = refl
none_named name (b ∷ bs) h = ap (λ o. or_inner o (local_in name b)) (none_named name bs h.1) ∙ h.0

pub innermost_first : InnermostFirst
innermost_first d subject outer inner block name at x e h =
    ap (λ o. local_or o (outside d subject name at))
    (local_named-append name outer (block ∷ inner) ∙ (ap (λ o. or_inner (or_inner o (local_in name block)) (local_named name outer)) (none_named name inner h) ∙
    ap (λ o. or_inner o (local_named name outer)) e))

-- from the innermost block outwards, where none further in has the name: it is found here, or further out
module _ (name : List ℕ) (blocks before : List InForce) (block : InForce) (left : List InForce) (e : left ≡ before ++ block ∷ []) (none : local_named name blocks ≡ local_named name left) where
  here_or_out : local_named name blocks ≡ or_inner (local_in name block) (local_named name before)
  here_or_out = none ∙ (ap (local_named name) e ∙ local_named-last name before block)

  pub is_here : (x : Option Local) → x ≡ local_in name block → (y : Local) → x ≡ Some y → Some y ≡ local_named name blocks
  is_here x h y s = sym (here_or_out ∙ ap (λ o. or_inner o (local_named name before)) (sym h ∙ s))

  pub is_further_out : (x : Option Local) → x ≡ local_in name block → x ≡ None → local_named name blocks ≡ local_named name before
  is_further_out x h s = here_or_out ∙ ap (λ o. or_inner o (local_named name before)) (sym h ∙ s)
