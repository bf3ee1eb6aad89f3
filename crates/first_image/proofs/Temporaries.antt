-- No code of this form needs a temporary.
use Rattle.std.proofs.Common.{◌≡◌, ℕ, List, [], ◌∷◌, refl, ◌∙◌}
use Rattle.spirv_words.specs.declared.opcodes.Op.TheVariants.{IAdd}
use Rattle.first_form.specs.declared.shader.Statement.{Statement}
use Rattle.first_form.specs.declared.shader.Sum.{Sum}
use Rattle.first_form.specs.declared.shader.Item.{Item}
use Rattle.first_form.specs.declared.shader.Item.TheVariants.{Number, X}
use Rattle.first_image.specs.Templates.{Tables, Code, pair_code, operator_code, item_code, more_code, sum_code, statement_code, statements_code}

abbrev NeedsNone : (ℕ → ℕ → Code) → Type 0
NeedsNone f = (id temp : ℕ) → (f id temp).temp ≡ temp

item_needs_none : (t : Tables) (i : Item) → NeedsNone (item_code t i)
item_needs_none t (Number n) id temp = refl
item_needs_none t X id temp = refl

pair_needs_none : (f g : ℕ → ℕ → Code) → NeedsNone f → NeedsNone g → (id temp : ℕ) → (pair_code (f id temp) g).temp ≡ temp
pair_needs_none f g hf hg id temp = hg (f id temp).id (f id temp).temp ∙ hf id temp

more_needs_none : (t : Tables) (is : List Item) (f : ℕ → ℕ → Code) → NeedsNone f → NeedsNone (more_code t f is)
more_needs_none t [] f h = h
more_needs_none t (i ∷ is) f h = more_needs_none t is (λ id temp. operator_code IAdd t.word (pair_code (f id temp) (item_code t i))) (pair_needs_none f (item_code t i) h (item_needs_none t i))

sum_needs_none : (t : Tables) (s : Sum) → NeedsNone (sum_code t s)
sum_needs_none t s = more_needs_none t s.rest (item_code t s.first) (item_needs_none t s.first)

statement_needs_none : (t : Tables) (s : Statement) (id temp : ℕ) → (statement_code t s id temp).temp ≡ temp
statement_needs_none t s = pair_needs_none (sum_code t s.index) (sum_code t s.value) (sum_needs_none t s.index) (sum_needs_none t s.value)

pub statements_need_none : (t : Tables) (ss : List Statement) (id temp : ℕ) → (statements_code t ss id temp).temp ≡ temp
statements_need_none t [] id temp = refl
statements_need_none t (s ∷ ss) id temp =
    let a = statement_code t s id temp in
    statements_need_none t ss a.id a.temp ∙ statement_needs_none t s id temp
