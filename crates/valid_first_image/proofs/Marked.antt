-- The decorations of a shader's image, each found by its place.
use Rattle.std.proofs.Common.{◌≡◌, ℕ, Bool, true, false, ◌&&◌, ◌+◌, cond, nat_eq, List, Option, Some, refl, ap, ◌∙◌}
use Rattle.std.proofs.lemmas.Bool.{eq-eqb}
use Rattle.image_declarations.specs.declared.decorations.Mark.{Mark}
use Rattle.image_declarations.specs.Decorations.{mark, member_mark}
use Rattle.first_form.specs.declared.shader.Shader.{Shader}
use Rattle.valid_first_image.proofs.Sections.{a, b, code}

-- another kind, and the one that is looked for
skips : (t : Bool) (x y z : Option Mark) → y ≡ z → cond (t && false) x y ≡ z
skips true x y z e = e
skips false x y z e = e

finds : (n : ℕ) (t : Bool) (x y : Option Mark) → t ≡ true → cond (nat_eq n n && t) x y ≡ x
finds n t x y e = ap (λ u. cond (u && t) x y) (eq-eqb n n refl) ∙ ap (λ u. cond u x y) e

and_false : (t : Bool) → (t && false) ≡ false
and_false true = refl
and_false false = refl

module _ (home : List ℕ) (p : Shader) where
  pub stride_marked : mark (code home p) 0 (a home p) 6 ≡ Some (record { place = 6; literal = 4 })
  stride_marked = finds (a home p) true _ _ refl

  pub offset_marked : member_mark (code home p) 0 (a home p + 1) 0 ≡ Some (record { place = 8; literal = 0 })
  offset_marked = finds (a home p + 1) true _ _ refl

  pub set_marked : mark (code home p) 0 (b home p) 34 ≡ Some (record { place = 9; literal = 0 })
  set_marked = skips _ _ _ _ (finds (b home p) true _ _ refl)

  pub binding_marked : mark (code home p) 0 (b home p) 33 ≡ Some (record { place = 10; literal = 0 })
  binding_marked = rw (and_false (nat_eq (a home p) (b home p)), and_false (nat_eq (b home p) (b home p)), eq-eqb (b home p) (b home p) refl) refl

  pub built_in_marked : mark (code home p) 0 (b home p + 1) 11 ≡ Some (record { place = 11; literal = 28 })
  built_in_marked =
      rw (and_false (nat_eq (a home p) (b home p + 1)), and_false (nat_eq (b home p) (b home p + 1)), eq-eqb (b home p + 1) (b home p + 1) refl) refl
