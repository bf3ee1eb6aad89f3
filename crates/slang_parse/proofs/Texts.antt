-- Which texts are parsed, and how the others are refused, from what the layers below say.
use Rattle.std.proofs.Common.{◌≡◌, ℕ, zero, suc, ◌+◌, ◌-◌, ◌<◌, ◌≤◌, List, length, ◌++◌, take, drop, Option, Some, None, Result, Ok, Err, true, false, refl, sym, ◌∙◌, ap, subst, arith, ◌⊎◌, inl, inr}
use Rattle.slang_names.specs.declared.places.Place.{Place}
use Rattle.slang_names.specs.declared.codes.ModuleCode.{ModuleCode}
use Rattle.slang_names.specs.declared.codes.ModuleCode.TheVariants as code
use Rattle.slang_names.specs.declared.faults.ModuleFault.{ModuleFault}
use Rattle.slang_names.specs.declared.faults.ModuleFault.TheVariants as f
use Rattle.slang_tree.specs.declared.file.File.{File}
use Rattle.slang_tokens.specs.declared.tokens.Token.{Token}
use Rattle.slang_tokens.specs.Cutting as cutting
use Rattle.slang_tokens.specs.Cutting.{Tokens, IsWhole}
use Rattle.slang_reading.specs.Lexed.{Lexed, lexed_all}
use Rattle.slang_reading.specs.Reading.{Outcome, Done, Stop, Past, first}
use Rattle.slang_grammar.specs.Descent.{Limits}
use Rattle.type_reading.specs.Limited.{language}
use Rattle.declaration_grammar.specs.Declarations.{FileAt}
use Rattle.declaration_grammar.specs.DeclarationsDescent.{files}
use Rattle.statement_fits.specs.Sizes.{nodes, lists, names}
use Rattle.declaration_fits.specs.Sizes.{in_file, FileFits}
use Rattle.expression_limits.specs.Breaks.{Break}
use Rattle.declaration_limits.specs.Declarations.{file_break}
use Rattle.file_reading.specs.Wholes as whole
use Rattle.file_reading.specs.Wholes.{lies, outcome, Follows}
use Rattle.file_reading.proofs.Cuts.{few, few_lexed, one_refusal}
use Rattle.slang_parse.specs.Parsing.{Spells, IsRefused, too_long, no_token, wrong_token, past_limit, text_limit, FirstWrong, GoesOn}

-- what the laws of the descent and of the cutting say
pub record Laws : Type 0 where
  pub spelled : (ts : List Lexed) (limits : Limits) (nodes seen to seen1 : ℕ) (x : File) → files limits nodes ts 0 seen ≡ Done x to seen1 → FileAt ts x
  pub fits : (ts : List Lexed) (limits : Limits) (nodes at seen to seen1 : ℕ) (x : File) → limits.free ≡ false → files limits nodes ts at seen ≡ Done x to seen1 → FileFits limits nodes x
  pub answered : (ts : List Lexed) (limits : Limits) (nodes seen : ℕ) (x : File) → FileAt ts x → FileFits limits nodes x → length ts ≤ limits.turns → nodes ≤ limits.turns → limits.items ≤ limits.turns →
      (to seen1 : ℕ) × (files limits nodes ts 0 seen ≡ Done x to seen1)
  pub whole_text : (text : List ℕ) → IsWhole text 0
  pub not_both : (text : List ℕ) (list : List Token) (place : Place) (code : ModuleCode) → Tokens text list → cutting.Refuses text 0 place code → ⊥
  pub one : (text : List ℕ) (a b : List Token) → Tokens text a → Tokens text b → a ≡ b

split : (n : ℕ) → (n ≤ text_limit) ⊎ (text_limit < n)
split n = le_or_lt n text_limit
  where
    le_or_lt : (m n : ℕ) → (m ≤ n) ⊎ (n < m)
    le_or_lt zero n = inl (omega arith)
    le_or_lt (suc m) zero = inr (omega arith)
    le_or_lt (suc m) (suc n) = elim (le_or_lt m n) [ inl h ↦ inl (omega arith) | inr h ↦ inr (omega arith) ]

module _ (laws : Laws) where
  -- what is answered is spelled
  pub done_spells : (text : List ℕ) (tokens : List Token) (x : File) (to seen : ℕ) → length text ≤ text_limit → Tokens text tokens → outcome text tokens ≡ Done x to seen → Spells text x
  done_spells text tokens x to seen short cut e = record {
    tokens = tokens;
    short = short;
    cut = cut;
    spelled = laws.spelled (lexed_all text tokens) language 64 0 to seen x e;
    fits = laws.fits (lexed_all text tokens) language 64 0 0 to seen x refl e;
  }

  -- and what is spelled is answered
  pub spelled_done : (text : List ℕ) (x : File) (s : Spells text x) → (to seen : ℕ) × (outcome text s.tokens ≡ Done x to seen)
  spelled_done text x s =
      let h = few text s.tokens s.cut in
      let short = s.short in
      laws.answered (lexed_all text s.tokens) language 64 0 x s.spelled s.fits (few_lexed text s.tokens 1048576 (omega (arith, h, short))) (omega arith) (omega arith)

  -- a text is parsed or refused
  of_tokens : (text : List ℕ) (tokens : List Token) → length text ≤ text_limit → Tokens text tokens → (o : Outcome File) → outcome text tokens ≡ o →
      ((file : File) × Spells text file) ⊎ ((place : Place) × (code : ModuleCode) × IsRefused text place code)
  of_tokens text tokens short cut (Done x to seen) e = inl (x, done_spells text tokens x to seen short cut e)
  of_tokens text tokens short cut (Stop seen) e = inr (_, _, wrong_token short cut e)
  of_tokens text tokens short cut (Past c place seen) e = inr (place, c, past_limit short cut e)

  of_short : (text : List ℕ) → length text ≤ text_limit → IsWhole text 0 → ((file : File) × Spells text file) ⊎ ((place : Place) × (code : ModuleCode) × IsRefused text place code)
  of_short text short (inl t) = of_tokens text t.0 short t.1 (outcome text t.0) refl
  of_short text short (inr r) = inr (r.0, r.1, no_token short r.2)

  pub all : (text : List ℕ) → ((file : File) × Spells text file) ⊎ ((place : Place) × (code : ModuleCode) × IsRefused text place code)
  all text = elim (split (length text)) [ inl short ↦ of_short text short (laws.whole_text text) | inr long ↦ inr (_, _, too_long long) ]

  -- the tokens of a text are one list
  done_at : (text : List ℕ) (x : File) (s : Spells text x) (tokens : List Token) → Tokens text tokens → (to seen : ℕ) × (outcome text tokens ≡ Done x to seen)
  done_at text x s tokens cut = subst (λ (ts : List Token). (to seen : ℕ) × (outcome text ts ≡ Done x to seen)) (laws.one text s.tokens tokens s.cut cut) (spelled_done text x s)

  pub not_both : (text : List ℕ) (x : File) (place : Place) (c : ModuleCode) → Spells text x → IsRefused text place c → ⊥
  not_both text x _ _ s (too_long long) = let short = s.short in absurd (omega (arith, long, short))
  not_both text x place c s (no_token short r) = laws.not_both text s.tokens place c s.cut r
  not_both text x _ _ s (wrong_token {tokens = ts} short cut e) = let d = done_at text x s ts cut in absurd (let q = sym e ∙ d.2 in cc)
  not_both text x _ _ s (past_limit {tokens = ts} short cut e) = let d = done_at text x s ts cut in absurd (let q = sym e ∙ d.2 in cc)

  pub one_file : (text : List ℕ) (a b : File) → Spells text a → Spells text b → a ≡ b
  one_file text a b s t =
      let d = done_at text b t s.tokens s.cut in
      let e = spelled_done text a s in
      (let q = sym e.2 ∙ d.2 in cc)

  abbrev Same : Place → ModuleCode → Place → ModuleCode → Type 0
  Same p a q b = (p ≡ q) × (a ≡ b)

  -- the outcome of the same tokens
  same_outcome : (text : List ℕ) (ts us : List Token) (o : Outcome File) → Tokens text ts → Tokens text us → outcome text us ≡ o → outcome text ts ≡ o
  same_outcome text ts us o t u e = subst (λ (list : List Token). outcome text list ≡ o) (laws.one text us ts u t) e

  same_wrong : (text : List ℕ) (ts us : List Token) (m n : ℕ) → ts ≡ us → m ≡ n → lies (first (drop (m - 1) ts)) (length text) ≡ lies (first (drop (n - 1) us)) (length text)
  same_wrong text ts us m n e d = ap (λ (list : List Token). lies (first (drop (m - 1) list)) (length text)) e ∙ ap (λ k. lies (first (drop (k - 1) us)) (length text)) d

  pub one_place : (text : List ℕ) (p q : Place) (a b : ModuleCode) → IsRefused text p a → IsRefused text q b → Same p a q b
  one_place text _ _ _ _ (too_long long) (too_long l) = (refl, refl)
  one_place text _ _ _ _ (too_long long) (no_token short r) = absurd (omega (arith, long, short))
  one_place text _ _ _ _ (too_long long) (wrong_token short cut e) = absurd (omega (arith, long, short))
  one_place text _ _ _ _ (too_long long) (past_limit short cut e) = absurd (omega (arith, long, short))
  one_place text _ _ _ _ (no_token short r) (too_long long) = absurd (omega (arith, long, short))
  one_place text p q a b (no_token short r) (no_token s z) = one_refusal text 0 p q a b r z
  one_place text p q a b (no_token short r) (wrong_token {tokens = ts} s cut e) = absurd (laws.not_both text ts p a cut r)
  one_place text p q a b (no_token short r) (past_limit {tokens = ts} s cut e) = absurd (laws.not_both text ts p a cut r)
  one_place text _ _ _ _ (wrong_token short cut e) (too_long long) = absurd (omega (arith, long, short))
  one_place text p q a b (wrong_token {tokens = ts} short cut e) (no_token s r) = absurd (laws.not_both text ts q b cut r)
  one_place text _ _ _ _ (wrong_token {tokens = ts} {seen = m} short cut e) (wrong_token {tokens = us} {seen = n} s cuts d) =
      (same_wrong text ts us m n (laws.one text ts us cut cuts) (let q = sym e ∙ same_outcome text ts us (Stop n) cut cuts d in cc), refl)
  one_place text _ _ _ _ (wrong_token {tokens = ts} short cut e) (past_limit {tokens = us} {place = q} {c = b} {seen = n} s cuts d) =
      absurd (let z = sym e ∙ same_outcome text ts us (Past b q n) cut cuts d in cc)
  one_place text _ _ _ _ (past_limit short cut e) (too_long long) = absurd (omega (arith, long, short))
  one_place text p q a b (past_limit {tokens = ts} short cut e) (no_token s r) = absurd (laws.not_both text ts q b cut r)
  one_place text _ _ _ _ (past_limit {tokens = ts} short cut e) (wrong_token {tokens = us} {seen = n} s cuts d) =
      absurd (let z = sym e ∙ same_outcome text ts us (Stop n) cut cuts d in cc)
  one_place text p q a b (past_limit {tokens = ts} short cut e) (past_limit {tokens = us} {seen = n} s cuts d) =
      (let z = sym e ∙ same_outcome text ts us (Past b q n) cut cuts d in (cc, cc))

-- ---- tokens spell one file

-- limits that a file keeps, and that let every attribute be
abbrev room : List Lexed → File → Limits
room ts x = record { turns = length ts + (in_file nodes x + in_file lists x); items = in_file lists x; names = in_file names x; free = true }

same : (n : ℕ) → n ≤ n
same n = omega arith

first_of : (a b c : ℕ) → a ≤ a + (b + c)
first_of a b c = omega arith

second_of : (a b c : ℕ) → b ≤ a + (b + c)
second_of a b c = omega arith

third_of : (a b c : ℕ) → c ≤ a + (b + c)
third_of a b c = omega arith

fits_room : (ts : List Lexed) (x : File) → FileFits (room ts x) (in_file nodes x) x
fits_room ts x = record { sizes = record { depth = same (in_file nodes x); long = same (in_file lists x); short = same (in_file names x) }; rules = refl }

-- the descent with those limits answers one of them, which is the other
pub one_spelled : ((ts : List Lexed) (limits : Limits) (nodes seen : ℕ) (x : File) → FileAt ts x → FileFits limits nodes x → length ts ≤ limits.turns → nodes ≤ limits.turns → limits.items ≤ limits.turns →
    (to seen1 : ℕ) × (files limits nodes ts 0 seen ≡ Done x to seen1)) →
    ((ts : List Lexed) (limits : Limits) (nodes seen end seen1 : ℕ) (x y : File) → FileAt ts x → files limits nodes ts 0 seen ≡ Done y end seen1 → (y ≡ x) × (first (drop end ts) ≡ None)) →
    (ts : List Lexed) (x y : File) → FileAt ts x → FileAt ts y → y ≡ x
one_spelled answered read ts x y s t =
    let a = length ts in
    let b = in_file nodes x in
    let c = in_file lists x in
    let d = answered ts (room ts x) b 0 x s (fits_room ts x) (first_of a b c) (second_of a b c) (third_of a b c) in
    sym (read ts (room ts x) b 0 d.0 d.1 y x t d.2).0

-- ---- from what is known of the reading of a text

module _ (all : (text : List ℕ) → ((file : File) × Spells text file) ⊎ ((place : Place) × (code : ModuleCode) × IsRefused text place code))
    (done : (text : List ℕ) (file : File) (s : Spells text file) → (to seen : ℕ) × (outcome text s.tokens ≡ Done file to seen))
    (text : List ℕ) (r : Result File ModuleFault)
    (long : text_limit < length text → whole.Refuses (record { start = text_limit; end = text_limit }) code.TooLong r)
    (cut : (place : Place) (c : ModuleCode) → length text ≤ text_limit → cutting.Refuses text 0 place c → whole.Refuses place c r)
    (read : (tokens : List Token) → length text ≤ text_limit → Tokens text tokens → Follows tokens (length text) (outcome text tokens) r) where
  pub each_refusal : (place : Place) (c : ModuleCode) → IsRefused text place c → whole.Refuses place c r
  each_refusal _ _ (too_long h) = long h
  each_refusal place c (no_token short z) = cut place c short z
  each_refusal _ _ (wrong_token {tokens = ts} {seen = n} short t e) = subst (λ (o : Outcome File). Follows ts (length text) o r) e (read ts short t)
  each_refusal _ _ (past_limit {tokens = ts} {place = p} {c = c} {seen = n} short t e) = subst (λ (o : Outcome File). Follows ts (length text) o r) e (read ts short t)

  pub each_file : (file : File) → Spells text file → whole.Answers file r
  each_file file s = let d = done text file s in subst (λ (o : Outcome File). Follows s.tokens (length text) o r) d.2 (read s.tokens s.short s.cut)

  -- a text that is refused is not answered, and one that is answered is not refused
  of_ok : (x : File) → r ≡ Ok x → ((file : File) × Spells text file) ⊎ ((place : Place) × (code : ModuleCode) × IsRefused text place code) → Spells text x
  of_ok x e (inl s) = let same : x ≡ s.0 = subst (λ (o : Result File ModuleFault). whole.Answers s.0 o) e (each_file s.0 s.1) in subst (λ (y : File). Spells text y) (sym same) s.1
  of_ok x e (inr q) = absurd (subst (λ (o : Result File ModuleFault). whole.Refuses q.0 q.1 o) e (each_refusal q.0 q.1 q.2))

  pub ok_spells : (x : File) → r ≡ Ok x → Spells text x
  ok_spells x e = of_ok x e (all text)

  of_refused : (p : Place) (c : ModuleCode) → r ≡ Err (f.Refused p c) → ((file : File) × Spells text file) ⊎ ((place : Place) × (code : ModuleCode) × IsRefused text place code) → IsRefused text p c
  of_refused p c e (inl s) = absurd (subst (λ (o : Result File ModuleFault). whole.Answers s.0 o) e (each_file s.0 s.1))
  of_refused p c e (inr q) =
      let same : (p ≡ q.0) × (c ≡ q.1) = subst (λ (o : Result File ModuleFault). whole.Refuses q.0 q.1 o) e (each_refusal q.0 q.1 q.2) in
      subst (λ (place : Place). IsRefused text place c) (sym same.0) (subst (λ (k : ModuleCode). IsRefused text q.0 k) (sym same.1) q.2)

  pub refused_is : (p : Place) (c : ModuleCode) → r ≡ Err (f.Refused p c) → IsRefused text p c
  refused_is p c e = of_refused p c e (all text)

-- ---- the first limit that is broken

-- what the laws of limits say
pub record Limited : Type 0 where
  pub answered : (ts : List Lexed) (limits : Limits) (nodes seen : ℕ) (x : File) (s : FileAt ts x) → limits.free ≡ false → length ts ≤ limits.turns → file_break ts limits s nodes ≡ None →
      (to seen1 : ℕ) × (files limits nodes ts 0 seen ≡ Done x to seen1)
  pub told : (ts : List Lexed) (limits : Limits) (nodes seen : ℕ) (x : File) (s : FileAt ts x) (b : Break) → limits.free ≡ false → length ts ≤ limits.turns → file_break ts limits s nodes ≡ Some b →
      (seen1 : ℕ) × (files limits nodes ts 0 seen ≡ Past b.code b.place seen1)

few_tokens : (text : List ℕ) (tokens : List Token) → length text ≤ text_limit → Tokens text tokens → length (lexed_all text tokens) ≤ 1048576
few_tokens text tokens short cut = let h = few text tokens cut in few_lexed text tokens 1048576 (omega (arith, h, short))

pub unbroken : Laws → Limited → (text : List ℕ) (tokens : List Token) (file : File) (s : FileAt (lexed_all text tokens) file) → length text ≤ text_limit → Tokens text tokens →
    file_break (lexed_all text tokens) language s 64 ≡ None → Spells text file
unbroken laws limited text tokens file s short cut e =
    let d = limited.answered (lexed_all text tokens) language 64 0 file s refl (few_tokens text tokens short cut) e in
    done_spells laws text tokens file d.0 d.1 short cut d.2

pub broken : Limited → (text : List ℕ) (tokens : List Token) (file : File) (s : FileAt (lexed_all text tokens) file) (b : Break) → length text ≤ text_limit → Tokens text tokens →
    file_break (lexed_all text tokens) language s 64 ≡ Some b → (seen : ℕ) × (outcome text tokens ≡ Past b.code b.place seen)
broken limited text tokens file s b short cut e = limited.told (lexed_all text tokens) language 64 0 file s b refl (few_tokens text tokens short cut) e

-- what the descent passes is told
pub told : (text : List ℕ) (tokens : List Token) (r : Result File ModuleFault) (c : ModuleCode) (p : Place) (seen : ℕ) → outcome text tokens ≡ Past c p seen → Follows tokens (length text) (outcome text tokens) r →
    whole.Refuses p c r
told text tokens r c p seen e f = subst (λ (o : Outcome File). Follows tokens (length text) o r) e f

-- the limit that each file breaks first that begins with what was looked at
by_break : Limited → (ts : List Lexed) (file : File) (s : FileAt ts file) (code : ModuleCode) (place : Place) (seen : ℕ) → files language 64 ts 0 0 ≡ Past code place seen → length ts ≤ 1048576 →
    (o : Option Break) → file_break ts language s 64 ≡ o → (b : Break) × (file_break ts language s 64 ≡ Some b) × (code ≡ b.code) × (place ≡ b.place)
by_break limited ts file s code place seen e h None q = let d = limited.answered ts language 64 0 file s refl h q in absurd (let z = sym e ∙ d.2 in cc)
by_break limited ts file s code place seen e h (Some b) q =
    let d = limited.told ts language 64 0 file s b refl h q in
    let z = sym e ∙ d.1 in
    (b, q, cc, cc)

pub of_files : Limited → (ts us : List Lexed) (file : File) (s : FileAt us file) (code : ModuleCode) (place : Place) (seen : ℕ) → files language 64 us 0 0 ≡ Past code place seen → length us ≤ 1048576 →
    (b : Break) × (file_break us language s 64 ≡ Some b) × (code ≡ b.code) × (place ≡ b.place)
of_files limited ts us file s code place seen e h = by_break limited us file s code place seen e h (file_break us language s 64) refl

-- ---- the first wrong token

pub first_wrong : (ts : List Lexed) (at : ℕ) → GoesOn (take at ts) → at ≤ length ts → ((more : List Lexed) (x : File) → at < length ts → FileAt (take (at + 1) ts ++ more) x → ⊥) →
    ((x : File) → FileAt ts x → ⊥) → FirstWrong ts at
first_wrong ts at before within further file = record { before = before; within = within; no_further = λ h g. further g.0 g.1 h g.2; no_file = file }
