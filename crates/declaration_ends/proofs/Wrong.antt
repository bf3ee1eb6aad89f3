-- Whole files: some file begins with the tokens before the one at which the descent stops, and none with that one too.
use Rattle.std.proofs.Common.{◌≡◌, ℕ, suc, ◌+◌, ◌<◌, ◌≤◌, List, ◌++◌, length, take, refl, sym, ◌∙◌, ap, subst, arith}
use Rattle.slang_names.specs.declared.places.Place.{Place}
use Rattle.slang_names.specs.declared.codes.ModuleCode.{ModuleCode}
use Rattle.slang_tree.specs.declared.file.File.{File}
use Rattle.slang_reading.specs.Lexed.{Lexed}
use Rattle.slang_reading.specs.Reading.{Outcome, Done, Stop, Past, bind, next}
use Rattle.slang_reading.proofs.Tame.{seen_of, seen_rises, Bounded}
use Rattle.slang_reading.proofs.Viable.{Viable}
use Rattle.slang_reading.proofs.Exact.{Post, reads_not_stopped}
use Rattle.slang_reading.proofs.Wrong.{same_outcome, goes_on}
use Rattle.slang_grammar.specs.Descent.{Limits}
use Rattle.slang_grammar.specs.Expressions.{loosest}
use Rattle.expression_grammar.proofs.Parts.{post_here}
use Rattle.expression_grammar.proofs.Spelled.{post_leveled}
use Rattle.declaration_grammar.specs.Declarations.{FileAt}
use Rattle.declaration_grammar.specs.DeclarationsDescent.{module_line, files}
use Rattle.declaration_grammar.proofs.FilesSpelled.{post_files}
use Rattle.declaration_laws.proofs.Files.{reads_files}
use Rattle.statement_ends.proofs.Roomy.{roomy}
use Rattle.statement_ends.proofs.Operands.{post_operands}
use Rattle.declaration_ends.proofs.Files.{Over, viable_files}

-- what is read is spelled
pub spelled_files : (ts : List Lexed) (limits : Limits) (nodes seen : ℕ) → Post (λ x to. FileAt ts x) (files limits nodes ts 0 seen)
spelled_files ts limits nodes seen = post_files ts limits nodes (λ d at seen. post_leveled ts limits d (suc loosest) at seen) (λ d at seen. post_operands ts limits d at seen) seen

-- how many nodes are room enough beside so many
abbrev most : Limits → ℕ → ℕ
most limits nodes = (roomy limits).turns + 5 + nodes + 1

viable : (limits : Limits) (nodes : ℕ) → Viable Over (files limits nodes) (files (roomy limits) (most limits nodes))
viable limits nodes = viable_files limits nodes (most limits nodes) (omega arith)

-- one token is looked at
looks : (ts : List Lexed) (limits : Limits) (nodes : ℕ) → files limits nodes ts 0 0 ≡ files limits nodes ts 0 1
unfolding files module_line bind next
looks ts limits nodes = refl

pub looked : (ts : List Lexed) (limits : Limits) (nodes : ℕ) (o : Outcome File) → files limits nodes ts 0 0 ≡ o → 0 < seen_of o
looked ts limits nodes o e =
    let r = seen_rises 0 1 (files limits nodes ts 0 1) ((viable limits nodes).tame.rises ts 0 1) in
    let s : seen_of (files limits nodes ts 0 1) ≡ seen_of o = ap seen_of (sym (looks ts limits nodes) ∙ e) in
    omega (arith, r, s)

-- the tokens before the last one that was looked at are there
seen_within : (ts : List Lexed) (limits : Limits) (nodes at : ℕ) (o : Outcome File) → files limits nodes ts 0 0 ≡ o → seen_of o ≡ at + 1 → at ≤ length ts
seen_within ts limits nodes at (Done x to seen) e s =
    let b : Bounded {A = File} (length ts) (Done x to seen) = subst (Bounded (length ts)) e ((viable limits nodes).tame.bounded ts 0 0 (omega arith) (omega arith)) in
    let h = b.1 in
    omega (arith, h, s)
seen_within ts limits nodes at (Stop seen) e s =
    let b : Bounded {A = File} (length ts) (Stop seen) = subst (Bounded (length ts)) e ((viable limits nodes).tame.bounded ts 0 0 (omega arith) (omega arith)) in
    omega (arith, b, s)
seen_within ts limits nodes at (Past code place seen) e s =
    let b : Bounded {A = File} (length ts) (Past code place seen) = subst (Bounded (length ts)) e ((viable limits nodes).tame.bounded ts 0 0 (omega arith) (omega arith)) in
    omega (arith, b, s)

pub stops_within : (ts : List Lexed) (limits : Limits) (nodes at : ℕ) → files limits nodes ts 0 0 ≡ Stop (at + 1) → at ≤ length ts
stops_within ts limits nodes at e = seen_within ts limits nodes at (Stop (at + 1)) e refl

-- and some file begins with them
front_goes_on : (ts : List Lexed) (limits : Limits) (nodes at : ℕ) (o : Outcome File) → files limits nodes ts 0 0 ≡ o → seen_of o ≡ at + 1 → (more : List Lexed) × (x : File) × FileAt (take at ts ++ more) x
front_goes_on ts limits nodes at o e s =
    let large = roomy limits in
    let n = most limits nodes in
    let g = goes_on (files limits nodes) ts at Over (files large n) (viable limits nodes) refl (ap seen_of e ∙ s) (seen_within ts limits nodes at o e s) in
    let us = take at ts ++ g.0 in
    (g.0, g.1.tree, post_here (λ x end. FileAt us x) (files large n us 0 0) g.1.tree (length us) g.1.seen1 g.1.is (spelled_files us large n 0))

pub files_go_on : (ts : List Lexed) (limits : Limits) (nodes at : ℕ) → files limits nodes ts 0 0 ≡ Stop (at + 1) → (more : List Lexed) × (x : File) × FileAt (take at ts ++ more) x
files_go_on ts limits nodes at e = front_goes_on ts limits nodes at (Stop (at + 1)) e refl

pub limits_go_on : (ts : List Lexed) (limits : Limits) (nodes at : ℕ) (code : ModuleCode) (place : Place) → files limits nodes ts 0 0 ≡ Past code place (at + 1) → (more : List Lexed) × (x : File) × FileAt (take at ts ++ more) x
limits_go_on ts limits nodes at code place e = front_goes_on ts limits nodes at (Past code place (at + 1)) e refl

-- what is looked at decides
pub limits_decide : (ts : List Lexed) (limits : Limits) (nodes at : ℕ) (code : ModuleCode) (place : Place) (more : List Lexed) → files limits nodes ts 0 0 ≡ Past code place (at + 1) → at < length ts →
    files limits nodes (take (at + 1) ts ++ more) 0 0 ≡ Past code place (at + 1)
limits_decide ts limits nodes at code place more e lt = same_outcome (files limits nodes) ts at (viable limits nodes).tame (ap seen_of e) lt more ∙ e

pub no_file : (ts : List Lexed) (limits : Limits) (nodes at : ℕ) (more : List Lexed) (x : File) → files limits nodes ts 0 0 ≡ Stop (at + 1) → at < length ts → FileAt (take (at + 1) ts ++ more) x → ⊥
no_file ts limits nodes at more x e lt s =
    let us = take (at + 1) ts ++ more in
    let whole = reads_files (Unit {0}) tt us limits nodes s in
    let same = same_outcome (files limits nodes) ts at (viable limits nodes).tame (ap seen_of e) lt more in
    reads_not_stopped (Unit {0}) (files limits nodes) us 0 0 x whole.to (at + 1) (whole.reads 0) (same ∙ e)
