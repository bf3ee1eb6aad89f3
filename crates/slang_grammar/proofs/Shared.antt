-- What all of the descent shares: what is read is spelled.
use Rattle.std.proofs.Common.{length, Bool, true, false, ◌≡◌, ℕ, ◌+◌, List, drop, Option, Some, None, refl, ◌∙◌, ap, if◌then◌else◌, ◌≤◌, ◌⊎◌, inr}
use Rattle.slang_names.specs.declared.places.Place.{Place}
use Rattle.slang_names.specs.declared.codes.ModuleCode.TheVariants as code
use Rattle.slang_tree.specs.declared.types.Identifier.{Identifier}
use Rattle.slang_tree.specs.declared.types.Term.{Term}
use Rattle.slang_tree.specs.declared.types.Term.TheVariants as term
use Rattle.slang_tokens.specs.declared.tokens.Kind.{Kind}
use Rattle.slang_tokens.specs.declared.tokens.Kind.TheVariants as k
use Rattle.slang_tokens.specs.declared.tokens.Mark.{Mark}
use Rattle.slang_reading.specs.Lexed.{Lexed}
use Rattle.slang_reading.specs.Reading.{first, Choice, Take, Refuse, pure}
use Rattle.slang_reading.specs.Kinds.{is_mark, sees}
use Rattle.slang_reading.proofs.Marks.{mark_is, mark_sees}
use Rattle.slang_reading.proofs.Exact.{Post, PostChoice, post_next, post_fits, Reads, ReadsChoice, reads_next, reads_pure, reads_fits}
use Rattle.slang_reading.proofs.Fine.{Fine, FineChoice, fine_next}
use Rattle.slang_grammar.specs.Standing.{Stands, NameStands, IsNot}
use Rattle.slang_grammar.specs.Types.{TermAt}
use Rattle.slang_grammar.specs.Types as t
use Rattle.slang_grammar.specs.Sizes.{term_name}
use Rattle.slang_grammar.proofs.Limited.{excuse_short}
use Rattle.slang_grammar.specs.Descent.{Limits, expected, expect, identifier, is_short, if_short, named_by, named, name, termed_by, termed, bracketed}

-- the token that is seen stands there
pub stands : (ts : List Lexed) (at : ℕ) (tok : Lexed) (kind : Kind) → first (drop at ts) ≡ Some tok → tok.kind ≡ kind → Stands ts at kind tok.place
stands ts at tok kind e d = record { bytes = tok.bytes; is = e ∙ ap (λ k. Some (record { kind = k; place = tok.place; bytes = tok.bytes })) d }

pub name_stands : (ts : List Lexed) (at : ℕ) (tok : Lexed) → first (drop at ts) ≡ Some tok → tok.kind ≡ k.Name → NameStands ts at (identifier tok)
name_stands ts at tok e d = record { is = e ∙ ap (λ k. Some (record { kind = k; place = tok.place; bytes = tok.bytes })) d }

abbrev pub IsMarkAt : List Lexed → Mark → ℕ → Place → ℕ → Type 0
IsMarkAt ts mark at p to = Stands ts at (k.Mark mark) p × (to ≡ at + 1)

pub post_expect : (ts : List Lexed) (mark : Mark) (at seen : ℕ) → Post (IsMarkAt ts mark at) (expect mark ts at seen)
unfolding expect
post_expect ts mark at seen = post_next ts (IsMarkAt ts mark at) (expected mark) at seen go
  where
    by : (tok : Lexed) → first (drop at ts) ≡ Some tok → (b : Bool) → is_mark mark tok.kind ≡ b →
        PostChoice ts (IsMarkAt ts mark at) at (Some tok) (if b then Take (pure tok.place) else Refuse)
    by tok e true d = λ seen1. (stands ts at tok (k.Mark mark) e (mark_is mark tok.kind d), refl)
    by tok e false d = tt

    go : (x : Option Lexed) → first (drop at ts) ≡ x → PostChoice ts (IsMarkAt ts mark at) at x (expected mark x)
    go (Some tok) e = by tok e (is_mark mark tok.kind) refl
    go None e = tt

-- and no limit is passed
pub fine_expect : (ts : List Lexed) (mark : Mark) (at seen : ℕ) → Fine (IsMarkAt ts mark at) (expect mark ts at seen)
unfolding expect
fine_expect ts mark at seen = fine_next ts (IsMarkAt ts mark at) (expected mark) at seen go
  where
    by : (tok : Lexed) → first (drop at ts) ≡ Some tok → (b : Bool) → is_mark mark tok.kind ≡ b →
        FineChoice ts (IsMarkAt ts mark at) at (Some tok) (if b then Take (pure tok.place) else Refuse)
    by tok e true d = λ seen1. (stands ts at tok (k.Mark mark) e (mark_is mark tok.kind d), refl)
    by tok e false d = tt

    go : (x : Option Lexed) → first (drop at ts) ≡ x → FineChoice ts (IsMarkAt ts mark at) at x (expected mark x)
    go (Some tok) e = by tok e (is_mark mark tok.kind) refl
    go None e = tt

abbrev pub IsNameAt : List Lexed → ℕ → Identifier → ℕ → Type 0
IsNameAt ts at id to = NameStands ts at id × (to ≡ at + 1)

pub post_name : (ts : List Lexed) (limits : Limits) (at seen : ℕ) → Post (IsNameAt ts at) (name limits ts at seen)
unfolding name
post_name ts limits at seen = post_next ts (IsNameAt ts at) (named limits) at seen go
  where
    by : (tok : Lexed) → first (drop at ts) ≡ Some tok → (kind : Kind) → tok.kind ≡ kind → PostChoice ts (IsNameAt ts at) at (Some tok) (named_by limits tok kind)
    by tok e k.Name d = post_fits ts (IsNameAt ts at) at (Some tok) (is_short limits tok) code.TooLong (Take (pure (identifier tok)))
        (λ f seen1. (name_stands ts at tok e d, refl))
    by tok e (k.Word w) d = tt
    by tok e (k.Number v) d = tt
    by tok e k.String d = tt
    by tok e (k.Mark m) d = tt

    go : (x : Option Lexed) → first (drop at ts) ≡ x → PostChoice ts (IsNameAt ts at) at x (named limits x)
    go (Some tok) e = by tok e tok.kind refl
    go None e = tt

abbrev pub IsTermAt : List Lexed → ℕ → Term → ℕ → Type 0
IsTermAt ts at x to = TermAt ts x at × (to ≡ at + 1)

pub post_bracketed : (ts : List Lexed) (limits : Limits) (at seen : ℕ) → Post (IsTermAt ts at) (bracketed limits ts at seen)
unfolding bracketed
post_bracketed ts limits at seen = post_next ts (IsTermAt ts at) (termed limits) at seen go
  where
    by : (tok : Lexed) → first (drop at ts) ≡ Some tok → (kind : Kind) → tok.kind ≡ kind → PostChoice ts (IsTermAt ts at) at (Some tok) (termed_by limits tok kind)
    by tok e k.Name d = post_fits ts (IsTermAt ts at) at (Some tok) (is_short limits tok) code.TooLong (Take (pure _))
        (λ f seen1. (t.name_term (name_stands ts at tok e d), refl))
    by tok e (k.Word w) d = tt
    by tok e (k.Number v) d = λ seen1. (t.number_term (stands ts at tok (k.Number v) e d), refl)
    by tok e k.String d = tt
    by tok e (k.Mark m) d = tt

    go : (x : Option Lexed) → first (drop at ts) ≡ x → PostChoice ts (IsTermAt ts at) at x (termed limits x)
    go (Some tok) e = by tok e tok.kind refl
    go None e = tt

-- ---- what is spelled is read

module _ (E : Type 0) (ts : List Lexed) where
  pub reads_expect : (mark : Mark) (p : Place) (at seen : ℕ) → Stands ts at (k.Mark mark) p → Reads E (expect mark) ts at seen p (at + 1)
  unfolding expect
  reads_expect mark p at seen s = reads_next E ts (expected mark) at seen p (at + 1) (Some (record { kind = k.Mark mark; place = p; bytes = s.bytes })) (Take (pure p)) s.is
      (ap (λ b. if b then Take (pure p) else Refuse) (mark_sees mark (record { kind = k.Mark mark; place = p; bytes = s.bytes }) refl)) (λ seen1. reads_pure E ts p (at + 1) seen1)

  -- what begins with a name that is short enough, or that may be too long
  module _ (limits : Limits) where
    pub short_within : {A : Type 0} (at : ℕ) (a : A) (to : ℕ) (t : Lexed) (c : Choice A) → (length t.bytes ≤ limits.names) ⊎ E → ReadsChoice E ts at a to (Some t) c → ReadsChoice E ts at a to (Some t) (if_short limits t c)
    short_within at a to t c h r = reads_fits E ts at a to (Some t) (is_short limits t) code.TooLong c (excuse_short E limits t h) r

    pub name_within : (id : Identifier) (at seen : ℕ) → (length id.name ≤ limits.names) ⊎ E → NameStands ts at id → Reads E (name limits) ts at seen id (at + 1)
    unfolding name
    name_within id at seen h s = let t : Lexed = record { kind = k.Name; place = id.place; bytes = id.name } in
        reads_next E ts (named limits) at seen id (at + 1) (Some t) (if_short limits t (Take (pure (identifier t)))) s.is refl
        (short_within at id (at + 1) t (Take (pure (identifier t))) h (λ seen1. reads_pure E ts id (at + 1) seen1))

    pub bracketed_within : (x : Term) (at seen : ℕ) → (term_name x ≤ limits.names) ⊎ E → TermAt ts x at → Reads E (bracketed limits) ts at seen x (at + 1)
    unfolding bracketed
    bracketed_within x at seen h (t.number_term {p = p} {v = v} s) =
        reads_next E ts (termed limits) at seen x (at + 1) (Some (record { kind = k.Number v; place = p; bytes = s.bytes })) (Take (pure (term.Number p v))) s.is refl
        (λ seen1. reads_pure E ts (term.Number p v) (at + 1) seen1)
    bracketed_within x at seen h (t.name_term {id = id} s) = let t : Lexed = record { kind = k.Name; place = id.place; bytes = id.name } in
        reads_next E ts (termed limits) at seen x (at + 1) (Some t) (if_short limits t (Take (pure (term.Name id)))) s.is refl
        (short_within at x (at + 1) t (Take (pure (term.Name id))) h (λ seen1. reads_pure E ts (term.Name id) (at + 1) seen1))

  -- where any limit may be passed
  module _ (e : E) (limits : Limits) where
    pub reads_short : {A : Type 0} (at : ℕ) (a : A) (to : ℕ) (t : Lexed) (c : Choice A) → ReadsChoice E ts at a to (Some t) c → ReadsChoice E ts at a to (Some t) (if_short limits t c)
    reads_short at a to t c r = short_within limits at a to t c (inr e) r

    pub reads_name : (id : Identifier) (at seen : ℕ) → NameStands ts at id → Reads E (name limits) ts at seen id (at + 1)
    reads_name id at seen s = name_within limits id at seen (inr e) s

    pub reads_bracketed : (x : Term) (at seen : ℕ) → TermAt ts x at → Reads E (bracketed limits) ts at seen x (at + 1)
    reads_bracketed x at seen s = bracketed_within limits x at seen (inr e) s

-- another token stands there
pub not_there : (ts : List Lexed) (mark : Mark) (at : ℕ) (kind : Kind) (p : Place) → Stands ts at kind p → is_mark mark kind ≡ false → IsNot ts mark at
not_there ts mark at kind p s e = record { is = ap (sees mark) s.is ∙ e }

pub is_there : (ts : List Lexed) (mark : Mark) (at : ℕ) (p : Place) → Stands ts at (k.Mark mark) p → sees mark (first (drop at ts)) ≡ true
is_there ts mark at p s = ap (sees mark) s.is ∙ mark_sees mark (record { kind = k.Mark mark; place = p; bytes = s.bytes }) refl
