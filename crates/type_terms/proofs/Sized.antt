-- The type of a sign and a size.
use Rattle.std.proofs.Common.{◌≡◌, ℕ, Bool, true, false, nat_eq, cond, Some, refl, sym, ap, ◌∙◌}
use Rattle.std.proofs.lemmas.Bool.{eqb-true}
use Rattle.slang_core.specs.declared.types.TypeTerm.{out-roll-TypeTerm}
use Rattle.slang_core.specs.declared.types.TypeTerm as layers
use Rattle.slang_core.specs.declared.types.TypeTerm.TheVariants as ty
use Rattle.slang_core.specs.declared.types.Scalar.TheVariants as s
use Rattle.slang_core.specs.declared.types.Arg.TheOpen as t
use Rattle.type_terms.specs.Types.{numeric, numeric_of, numeric_layer, number_type, scalar_of, type_of_numeric}

sized : (u : Bool) (n : ℕ) (one : Bool) → (one ≡ true → n ≡ 1) → numeric_of (cond one (number_type u) (ty.Vector (scalar_of u) n)) ≡ Some (numeric u n)
unfolding layers.roll-TypeTerm layers.out-TypeTerm denote.Hole.Carrier.roll
sized true n true h = ap numeric_layer (out-roll-TypeTerm t.Uint) ∙ ap (λ k. Some (numeric true k)) (sym (h refl))
sized false n true h = ap numeric_layer (out-roll-TypeTerm t.Int) ∙ ap (λ k. Some (numeric false k)) (sym (h refl))
sized true n false h = ap numeric_layer (out-roll-TypeTerm (t.Vector s.Uint n))
sized false n false h = ap numeric_layer (out-roll-TypeTerm (t.Vector s.Int n))

pub same_number : (u : Bool) (n : ℕ) → numeric_of (type_of_numeric (numeric u n)) ≡ Some (numeric u n)
same_number u n = sized u n (nat_eq n 1) (eqb-true n 1)
