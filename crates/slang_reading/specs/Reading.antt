-- Parsers as functions on lists of tokens. A parser is given the tokens, the index of the next one, and how many
-- tokens have been looked at so far. Where it stops, the last token that was looked at is the one that it refuses.
-- The index is absolute and the list never changes, so that outcomes on two lists can be compared.
use Rattle.std.specs.Prelude.{Bool, true, false, ℕ, zero, suc, ◌+◌, max, List, [], ◌∷◌, drop, Option, Some, None}
use Rattle.slang_names.specs.declared.places.Place.{Place}
use Rattle.slang_names.specs.declared.codes.ModuleCode.{ModuleCode}
use Rattle.slang_names.specs.declared.codes.ModuleCode.TheVariants as code
use Rattle.slang_reading.specs.Lexed.{Lexed}

pub data Outcome (A : Type 0) : Type 0 where
  -- the answer, the index of the next token, and how many tokens have been looked at
  Done : A → (at seen : ℕ) → Outcome A
  -- no file goes on with the last token that was looked at
  Stop : (seen : ℕ) → Outcome A
  -- a limit is passed, or a rule beside the grammar is broken: with this code, at this place
  Past : ModuleCode → Place → (seen : ℕ) → Outcome A

abbrev pub Parser : Type 0 → Type 0
Parser A = List Lexed → ℕ → ℕ → Outcome A

abbrev pub and_then : {A B : Type 0} → Outcome A → (A → ℕ → ℕ → Outcome B) → Outcome B
and_then (Done a at seen) f = f a at seen
and_then (Stop seen) f = Stop seen
and_then (Past code place seen) f = Past code place seen

-- one after the other
unfoldable pub bind : {A B : Type 0} → Parser A → (A → Parser B) → Parser B
bind p g = λ ts at seen. and_then (p ts at seen) (λ a at1 seen1. g a ts at1 seen1)

infixl 10 ◌>>=◌
abbrev pub ◌>>=◌ : {A B : Type 0} → Parser A → (A → Parser B) → Parser B
p >>= g = bind p g

infixl 10 ◌>>◌
abbrev pub ◌>>◌ : {A B : Type 0} → Parser A → Parser B → Parser B
p >> q = p >>= (λ _. q)

abbrev pub pure : {A : Type 0} → A → Parser A
pure a = λ ts at seen. Done a at seen

abbrev pub refuse : {A : Type 0} → Parser A
refuse = λ ts at seen. Stop seen

abbrev pub past : {A : Type 0} → ModuleCode → Place → Parser A
past code place = λ ts at seen. Past code place seen

abbrev pub first : {X : Type 0} → List X → Option X
first [] = None
first (x ∷ xs) = Some x

-- What to do at the next token.
pub data Choice (A : Type 0) : Type 0 where
  -- go on, with the token not taken
  Leave : Parser A → Choice A
  -- take the token and go on
  Take : Parser A → Choice A
  -- no file goes on with it
  Refuse : Choice A
  -- what begins here passes a limit, or breaks a rule beside the grammar
  Pass : ModuleCode → Place → Choice A

abbrev pub chosen : {A : Type 0} → Option Lexed → Choice A → Parser A
chosen x (Leave p) = p
chosen (Some t) (Take p) = λ ts at seen. p ts (at + 1) seen
chosen None (Take p) = refuse
chosen x Refuse = refuse
chosen x (Pass code place) = past code place

-- looks at the next token and chooses
unfoldable pub next : {A : Type 0} → (Option Lexed → Choice A) → Parser A
next f = λ ts at seen. chosen (first (drop at ts)) (f (first (drop at ts))) ts at (max seen (at + 1))

-- where the next token lies
abbrev pub place_of : Option Lexed → Place
place_of (Some t) = t.place
place_of None = record { start = 0; end = 0 }

-- what is refused stays so, and what would go on passes the limit of that code
abbrev pub unless_past : {A : Type 0} → ModuleCode → Place → Choice A → Choice A
unless_past code place (Leave p) = Pass code place
unless_past code place (Take p) = Pass code place
unless_past code place Refuse = Refuse
unless_past code place (Pass other there) = Pass other there

-- the choice at that token, if what begins with it fits
abbrev pub if_fits : {A : Type 0} → Bool → ModuleCode → Option Lexed → Choice A → Choice A
if_fits true code x c = c
if_fits false code x c = unless_past code (place_of x) c

-- Goes on with what q reads, or, where q stops, from where q began.
abbrev pub tried : {A B : Type 0} → Outcome B → (Option B → Parser A) → List Lexed → ℕ → Outcome A
tried (Done b at seen) f ts back = f (Some b) ts at seen
tried (Stop seen) f ts back = f None ts back seen
tried (Past code place seen) f ts back = Past code place seen

unfoldable pub attempt : {A B : Type 0} → Parser B → (Option B → Parser A) → Parser A
attempt q f = λ ts at seen. tried (q ts at seen) f ts at

-- Looks ahead whether q reads something here, and goes on from here either way.
abbrev pub foreseen : {A B : Type 0} → Outcome B → (Bool → Parser A) → List Lexed → ℕ → Outcome A
foreseen (Done b at seen) f ts back = f true ts back seen
foreseen (Stop seen) f ts back = f false ts back seen
foreseen (Past code place seen) f ts back = Past code place seen

unfoldable pub foresee : {A B : Type 0} → Parser B → (Bool → Parser A) → Parser A
foresee q f = λ ts at seen. foreseen (q ts at seen) f ts at

-- While the next token goes on, more; at most n times. Each turn takes a token, so no text within its limit has so many.
abbrev pub turn : {A : Type 0} → Bool → Choice A → A → Choice A
turn true again a = again
turn false again a = Leave (pure a)

unfoldable pub turns : {A : Type 0} → (Option Lexed → Bool) → (A → Parser A) → ℕ → A → Parser A
turns goes more zero a = next (λ x. turn (goes x) (Pass code.TooLong (place_of x)) a)
turns goes more (suc n) a = next (λ x. turn (goes x) (Leave (more a >>= turns goes more n)) a)
