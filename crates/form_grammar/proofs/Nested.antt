-- A nested production, by how many more may stand in one another.
use Rattle.std.proofs.Common.{◌≡◌, ℕ, zero, suc, ◌-◌, ◌<◌, List, [], ◌∷◌, length, refl, ap, arith}
use Rattle.slang_names.specs.declared.form_codes.FormCode.TheVariants.{FormLimit}
use Rattle.form_grammar.specs.Grammar.{Class, grammar}
use Rattle.form_grammar.specs.Numbers.{short, refused}
use Rattle.form_grammar.specs.Reading.{form_at, nested_at}

pub nested_none : (d : ℕ) (c : Class) (bytes : List ℕ) → length bytes ≡ 0 → nested_at d c bytes ≡ short
unfolding nested_at form_at
nested_none zero c [] h = refl
nested_none (suc d) Class.Term [] h = refl
nested_none (suc d) Class.Evidence [] h = refl
nested_none (suc d) Class.Stat [] h = refl
nested_none (suc d) Class.Expr [] h = refl
nested_none (suc d) Class.Place [] h = refl
nested_none d c (b ∷ bytes) h = absurd (omega arith)

pub nested_full : (d : ℕ) (c : Class) (bytes : List ℕ) → d ≡ 0 → 0 < length bytes → nested_at d c bytes ≡ refused FormLimit bytes
unfolding nested_at
nested_full zero c [] z h = absurd (omega arith)
nested_full zero c (b ∷ bytes) z h = refl
nested_full (suc d) c bytes z h = absurd (omega arith)

pub nested_more : (d : ℕ) (c : Class) (bytes : List ℕ) → 0 < d → nested_at d c bytes ≡ form_at (nested_at (d - 1)) (grammar c) bytes
unfolding nested_at
nested_more d c bytes h = let e : d ≡ suc (d - 1) = omega arith in ap (λ n. nested_at n c bytes) e
