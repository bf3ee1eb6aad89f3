use Rattle.std.proofs.Common.{◌≡◌, ℕ, List, [], ◌∷◌, None, refl, sym, ◌∙◌}
use Rattle.slang_names.specs.declared.places.Place.{Place}
use Rattle.slang_names.specs.declared.codes.ModuleCode.{ModuleCode}
use Rattle.slang_tree.specs.declared.file.File.{File}
use Rattle.slang_reading.specs.Lexed.{Lexed}
use Rattle.slang_reading.specs.Reading.{Outcome, Done, Past, Parser, first}
use Rattle.slang_reading.proofs.Exact.{reads_done}
use Rattle.declaration_grammar.specs.DeclarationsDescent.{files}
use Rattle.declaration_fits.proofs.Files.{reads_files}
use Rattle.expression_limits.specs.Breaks.{Break}
use Rattle.expression_limits.proofs.Telling.{Tells, tells_past}
use Rattle.declaration_limits.specs.Declarations.{file_breaks}
use Rattle.declaration_limits.proofs.Files.{tells_files}
use Rattle.declaration_limits.proofs.laws.what_fits_breaks_nothing.Goals as goal

-- what is answered tells no break
done_not_past : (o : Outcome File) (x : File) (to seen1 seen2 : ℕ) (code : ModuleCode) (place : Place) → o ≡ Done x to seen1 → o ≡ Past code place seen2 → ⊥
done_not_past o x to seen1 seen2 code place e f = let h = sym e ∙ f in cc

answered_breaks_nothing : (p : Parser File) (ts : List Lexed) (x : File) (end to seen1 : ℕ) → p ts 0 0 ≡ Done x end seen1 → (bs : List Break) → Tells bs p ts 0 0 x to → first bs ≡ None
answered_breaks_nothing p ts x end to seen1 e [] r = refl
answered_breaks_nothing p ts x end to seen1 e (b ∷ bs) r = let past = tells_past (b ∷ bs) p ts 0 0 x to b r refl in absurd (done_not_past (p ts 0 0) x end seen1 past.0 b.code b.place e past.1)

pub returns : goal.returns
returns c = λ ts limits nodes x s f free long depth items.
    let fits = reads_files ts limits nodes (record { tokens = long; depth = depth; items = items }) s f in
    let done = reads_done (files limits nodes) ts 0 0 x fits.to (fits.reads 0) in
    let whole = tells_files ts limits free long nodes s in
    answered_breaks_nothing (files limits nodes) ts x fits.to whole.to done.0 done.1 (file_breaks ts limits s nodes) (whole.tells 0)
