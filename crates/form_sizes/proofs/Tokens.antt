-- How many bytes the tokens of a text have.
use Rattle.std.proofs.Common.{◌≡◌, ℕ, zero, suc, ◌+◌, ◌-◌, ◌≤◌, List, [], ◌∷◌, drop, length, Some, sym, subst, arith}
use Rattle.slang_names.specs.declared.places.Place.{Place}
use Rattle.slang_tree.specs.declared.types.Identifier.{Identifier}
use Rattle.slang_tokens.specs.declared.tokens.Kind.{Kind}
use Rattle.slang_tokens.specs.declared.tokens.Kind.TheVariants as k
use Rattle.slang_tokens.specs.declared.tokens.Token.{Token}
use Rattle.slang_tokens.specs.Cutting as cut
use Rattle.slang_tokens.specs.Cutting.{place, Cut, Tokens}
use Rattle.slang_reading.specs.Lexed.{Lexed, lexed_all}
use Rattle.slang_reading.specs.Reading.{first}
use Rattle.slang_grammar.specs.Standing.{Stands, NameStands}
use Rattle.form_sizes.proofs.Lexemes.{least, at_least}

abbrev pub width : Lexed → ℕ
width t = t.place.end - t.place.start

-- the bytes of the tokens from the index on
abbrev pub behind : List Lexed → ℕ → ℕ
behind [] n = 0
behind (t ∷ ts) zero = width t + behind ts zero
behind (t ∷ ts) (suc n) = behind ts n

-- every token has as many bytes as its kind takes at least
pub data Sized : List Lexed → Type 0 where
  none : Sized []
  more : {t : Lexed} {ts : List Lexed} → least t.kind ≤ width t → Sized ts → Sized (t ∷ ts)

-- ---- at an index

pub behind_less : (ts : List Lexed) (from to : ℕ) → from ≤ to → behind ts to ≤ behind ts from
behind_less [] from to h = omega arith
behind_less (t ∷ ts) zero zero h = omega arith
behind_less (t ∷ ts) zero (suc m) h = let a = behind_less ts zero m (omega arith) in omega (arith, a)
behind_less (t ∷ ts) (suc n) zero h = absurd (omega arith)
behind_less (t ∷ ts) (suc n) (suc m) h = behind_less ts n m (omega arith)

token_has : (ts : List Lexed) (at : ℕ) (tok : Lexed) → Sized ts → first (drop at ts) ≡ Some tok → least tok.kind + behind ts (at + 1) ≤ behind ts at
token_has [] zero tok s e = absurd cc
token_has [] (suc n) tok s e = absurd cc
token_has (t ∷ ts) zero tok (more h s) e = let q : t ≡ tok = cc in subst (λ (u : Lexed). least u.kind + behind ts zero ≤ width t + behind ts zero) q (omega (arith, h))
token_has (t ∷ ts) (suc n) tok (more h s) e =
    let a = token_has ts n tok s e in
    let i : suc n + 1 ≡ suc (n + 1) = omega arith in
    subst (λ (m : ℕ). least tok.kind + behind (t ∷ ts) m ≤ behind ts n) (sym i) a

pub stands_has : {ts : List Lexed} {at : ℕ} {kind : Kind} {p : Place} → Sized ts → Stands ts at kind p → least kind + behind ts (at + 1) ≤ behind ts at
stands_has {ts = ts} {at = at} {kind = kind} {p = p} z s = token_has ts at (record { kind = kind; place = p; bytes = s.bytes }) z s.is

pub name_has : {ts : List Lexed} {at : ℕ} {id : Identifier} → Sized ts → NameStands ts at id → 1 + behind ts (at + 1) ≤ behind ts at
name_has {ts = ts} {at = at} {id = id} z s = token_has ts at (record { kind = k.Name; place = id.place; bytes = id.name }) z s.is

-- ---- of a text

record IsCutAt (text : List ℕ) (at : ℕ) (ts : List Lexed) : Type 0 where
  sized : Sized ts
  within : behind ts 0 + at ≤ length text

cut_at : (text : List ℕ) (at : ℕ) (list : List Token) → Cut text at list → IsCutAt text at (lexed_all text list)
cut_at text at [] (cut.end e) = record { sized = none; within = omega (arith, e) }
cut_at text at list (cut.blank {len = len} l r) = let a = cut_at text (at + len) list r in let w = a.within in record { sized = a.sized; within = omega (arith, w) }
cut_at text at list (cut.token {len = len} {kind = kind} {ts = rest} l r) =
    let a = cut_at text (at + len) rest r in
    let w = a.within in
    let h = at_least (drop at text) kind len l in
    record { sized = more (omega (arith, h)) a.sized; within = omega (arith, w) }

pub tokens_sized : (text : List ℕ) (tokens : List Token) → Tokens text tokens → Sized (lexed_all text tokens)
tokens_sized text tokens t = (cut_at text 0 tokens t).sized

pub tokens_within : (text : List ℕ) (tokens : List Token) → Tokens text tokens → behind (lexed_all text tokens) 0 ≤ length text
tokens_within text tokens t = let w = (cut_at text 0 tokens t).within in omega (arith, w)
