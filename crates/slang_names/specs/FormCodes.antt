-- The number and the printed name of each code of a stored module.
use Rattle.std.specs.Prelude.{ℕ, List, codes}
use Rattle.slang_names.specs.declared.form_codes.FormCode.{FormCode}
use Rattle.slang_names.specs.declared.form_codes.FormCode.TheVariants.{Short, BadMagic, BadVersion, NotCanonical, Trailing, NotTyped, FormLimit, WrongName}

abbrev pub form_number : FormCode → ℕ
form_number Short = 301
form_number BadMagic = 302
form_number BadVersion = 303
form_number NotCanonical = 304
form_number Trailing = 305
form_number NotTyped = 306
form_number FormLimit = 307
form_number WrongName = 308

abbrev pub form_name : FormCode → List ℕ
form_name Short = codes "Short"
form_name BadMagic = codes "BadMagic"
form_name BadVersion = codes "BadVersion"
form_name NotCanonical = codes "NotCanonical"
form_name Trailing = codes "Trailing"
form_name NotTyped = codes "NotTyped"
form_name FormLimit = codes "FormLimit"
form_name WrongName = codes "WrongName"
