-- What a stored module is, and which fit.
use Rattle.std.specs.Prelude.{◌≡◌, ℕ, ◌≤◌, ⊤, List, length, Result, Ok, Err}
use Rattle.slang_core.specs.declared.declarations.CoreModule.{CoreModule}
use Rattle.slang_core.specs.ModuleTrees.{module_tree}
use Rattle.form_grammar.specs.Trees.{spelling}
use Rattle.form_grammar.specs.Grammar.{module_form}
use Rattle.form_laws.specs.Forms.{IsForm}
use Rattle.form_laws.specs.Forms as tree
use Rattle.form_refusals.specs.Refused.{most_bytes}
use Rattle.module_form.specs.declared.faults.FormFault.{FormFault}
use Rattle.module_form.specs.declared.faults.FormFault.TheVariants as fault

-- the bytes spell the core
abbrev pub StoredForm : CoreModule → List ℕ → Type 0
StoredForm m bytes = IsForm (module_tree m) module_form × (bytes ≡ spelling (module_tree m))

-- No list has more than 65,536 items, at most 128 productions stand in one another, and the spelling has at most 16,777,216 bytes.
abbrev pub FitsLimits : CoreModule → Type 0
FitsLimits m = tree.Fits (module_tree m) 128 × (length (spelling (module_tree m)) ≤ most_bytes)

-- memory was wanting
abbrev pub IsMemory : {A : Type 0} → Result A FormFault → Type 0
IsMemory (Ok a) = ⊥
IsMemory (Err (fault.Memory e)) = ⊤
IsMemory (Err (fault.Refused place code)) = ⊥
