-- The limits beside which a descent is compared, and tokens of which the shortest texts are made.
use Rattle.std.proofs.Common.{true, false, ◌≡◌, ◌+◌, Option, refl, ◌∙◌, ap, arith}
use Rattle.slang_tokens.specs.declared.tokens.Kind.TheVariants as k
use Rattle.slang_tokens.specs.declared.tokens.Mark.{Mark}
use Rattle.slang_tokens.specs.declared.tokens.Word.{Word}
use Rattle.slang_reading.specs.Lexed.{Lexed}
use Rattle.slang_reading.specs.Kinds.{is_mark, is_word, sees, sees_word}
use Rattle.slang_reading.proofs.Marks.{sees_some}
use Rattle.slang_grammar.specs.Descent.{Limits}
use Rattle.slang_grammar.specs.ExpressionsDescent.{freed}
use Rattle.slang_grammar.proofs.TypesReady.{Wider, token}
use Rattle.expression_grammar.proofs.Ready.{Roomier}

-- two turns more, and no limits of lists, names and chains
abbrev pub roomy : Limits → Limits
roomy limits = record { turns = limits.turns + 2; items = limits.items; names = limits.names; free = true }

pub roomier : (limits : Limits) → Roomier limits (roomy limits)
roomier limits = record { turns = omega arith; free = refl }

pub wider : (limits : Limits) → Wider limits (roomy limits)
wider limits = record { turns = omega arith; free = refl }

pub freed_wider : (limits : Limits) → Wider (freed limits) (roomy limits)
freed_wider limits = record { turns = omega arith; free = refl }

pub roomy_self : (limits : Limits) → Wider (roomy limits) (roomy limits)
roomy_self limits = record { turns = omega arith; free = refl }

-- a word, at no place in particular
abbrev pub word : Word → Lexed
word w = token (k.Word w)

-- where one mark is seen, another one is not
pub not_mark : (a b : Mark) → is_mark b (k.Mark a) ≡ false → (x : Option Lexed) → sees a x ≡ true → sees b x ≡ false
not_mark a b e x s = let u = sees_some a x s in ap (sees b) u.1 ∙ (ap (is_mark b) u.2 ∙ e)

-- nor a word
pub not_word : (a : Mark) (b : Word) → (x : Option Lexed) → sees a x ≡ true → sees_word b x ≡ false
not_word a b x s = let u = sees_some a x s in ap (sees_word b) u.1 ∙ ap (is_word b) u.2
