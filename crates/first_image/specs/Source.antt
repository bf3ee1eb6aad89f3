-- What a shader of the first form means, written without its words.
use Rattle.std.specs.Prelude.{ℕ, nat_lt, List, [], ◌∷◌, slice_get}
use Rattle.behavior.specs.Values.{Value, Word, part, triple}
use Rattle.behavior.specs.Operations.{word_add}
use Rattle.behavior.specs.Meanings.{Write, Undefined, Meaning}
use Rattle.behavior.specs.Running.{World, Result, Went, Ends, then, Flow, Next, then_next, and_event, on_word, on_local, on_way, choose, outcome}
use Rattle.first_form.specs.declared.shader.Shader.{Shader}
use Rattle.first_form.specs.declared.shader.Statement.{Statement}
use Rattle.first_form.specs.declared.shader.Sum.{Sum}
use Rattle.first_form.specs.declared.shader.Item.{Item}
use Rattle.first_form.specs.declared.shader.Item.TheVariants.{Number, X}

-- the one local is the entry's parameter, the global id of the invocation

-- a component of a local
abbrev pub component_means : ℕ → ℕ → List Value → World → Result Value
component_means local k l w = on_local (slice_get l local) w (λ v. on_way (part v (k ∷ [])) w (λ x. Went x l w))

abbrev pub item_means : Item → List Value → World → Result Value
item_means (Number n) l w = Went (Word n) l w
item_means X l w = component_means 0 0 l w

-- two values from left to right, and the low 32 bits of their sum
abbrev pub plus_means : (List Value → World → Result Value) → (List Value → World → Result Value) → List Value → World → Result Value
plus_means a b l w =
    then (a l w) (λ x l1 w1. then (b l1 w1) (λ y l2 w2.
    on_word x w2 (λ n. on_word y w2 (λ m. Went (Word (word_add n m)) l2 w2))))

-- what is summed so far, and the items to come
abbrev pub more_means : (List Value → World → Result Value) → List Item → List Value → World → Result Value
more_means so_far [] = so_far
more_means so_far (i ∷ is) = more_means (plus_means so_far (item_means i)) is

abbrev pub sum_means : Sum → List Value → World → Result Value
sum_means s = more_means (item_means s.first) s.rest

module _ (lengths : ℕ → ℕ → ℕ) where
  -- a write of one word of the buffer at set 0 and binding 0; an index past its last word is undefined
  abbrev pub write_means : (List Value → World → Result Value) → (List Value → World → Result Value) → List Value → World → Result Flow
  write_means index value l w =
      then (index l w) (λ x l1 w1. then (value l1 w1) (λ y l2 w2.
      on_word x w2 (λ n. on_word y w2 (λ m.
      choose (nat_lt n (lengths 0 0)) (Went Next l2 (and_event w2 (Write 0 0 n m))) (Ends w2.events Undefined)))))

  -- the index, then the value, then the write
  abbrev pub statement_means : Statement → List Value → World → Result Flow
  statement_means s = write_means (sum_means s.index) (sum_means s.value)

  abbrev pub statements_mean : List Statement → List Value → World → Result Flow
  statements_mean [] l w = Went Next l w
  statements_mean (s ∷ ss) l w = then_next (statement_means s l w) (statements_mean ss)

-- the meaning of a shader: it neither reads nor loops, so the answers and the bound have no effect
abbrev pub source : Shader → Meaning
source p ids lengths answers n =
    outcome (statements_mean lengths p.statements (triple ids.global ∷ []) (record { answers = answers; events = []; clock = n }))
