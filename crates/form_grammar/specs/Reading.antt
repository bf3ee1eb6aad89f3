-- Reading a form: from left to right, with the first byte that is refused.
use Rattle.std.specs.Prelude.{◌≡◌, ℕ, zero, suc, List, [], ◌∷◌, Result, Ok, Err, nat_le, nat_eq, ◌&&◌, if◌then◌else◌}
use Rattle.slang_names.specs.declared.form_codes.FormCode.{FormCode}
use Rattle.slang_names.specs.declared.form_codes.FormCode.TheVariants.{NotCanonical, FormLimit, Trailing}
use Rattle.form_grammar.specs.declared.codes.Stop.{Stop}
use Rattle.form_grammar.specs.declared.codes.ReadFault.{ReadFault}
use Rattle.form_grammar.specs.declared.codes.ReadFault.TheVariants as faults
use Rattle.form_grammar.specs.Trees.{Tree, nothing, byte, number, text, ◌▸◌, tagged, nested, many, end, ◌⨾◌}
use Rattle.form_grammar.specs.Grammar.{Form, Class, grammar, unit, exactly, range, num, name, ◌▹◌, tag, alt, list, part}
use Rattle.form_grammar.specs.Numbers.{Found, after, short, refused, number_at, text_at, count_at}

abbrev pub Reader : Type 0
Reader = List ℕ → Found Tree

-- so many items, one behind another
unfoldable pub items_at : Reader → ℕ → Reader
items_at item zero bytes = Ok (end, bytes)
items_at item (suc n) bytes = after (item bytes) (λ x. after (items_at item n x.1) (λ xs. Ok (x.0 ⨾ xs.0, xs.1)))

-- what a form reads, where inner reads the nested productions
unfoldable pub form_at : (Class → Reader) → Form → Reader
form_at inner unit bytes = Ok (nothing, bytes)
form_at inner (exactly code n) [] = short
form_at inner (exactly code n) (b ∷ bytes) = if nat_eq b n then Ok (byte b, bytes) else refused code (b ∷ bytes)
form_at inner (range low high) [] = short
form_at inner (range low high) (b ∷ bytes) = if nat_le low b && nat_le b high then Ok (byte b, bytes) else refused NotCanonical (b ∷ bytes)
form_at inner num bytes = after (number_at bytes) (λ n. Ok (number n.0, n.1))
form_at inner name bytes = after (text_at bytes) (λ n. Ok (text n.0, n.1))
form_at inner (g ▹ h) bytes = after (form_at inner g bytes) (λ x. after (form_at inner h x.1) (λ y. Ok (x.0 ▸ y.0, y.1)))
form_at inner (tag n g) [] = short
form_at inner (tag n g) (b ∷ bytes) = if nat_eq b n then after (form_at inner g bytes) (λ x. Ok (tagged b x.0, x.1)) else refused NotCanonical (b ∷ bytes)
form_at inner (alt n g h) [] = short
form_at inner (alt n g h) (b ∷ bytes) = if nat_eq b n then after (form_at inner g bytes) (λ x. Ok (tagged b x.0, x.1)) else form_at inner h (b ∷ bytes)
form_at inner (list g) bytes = after (count_at bytes) (λ n. after (items_at (form_at inner g) n.0 n.1) (λ xs. Ok (many xs.0, xs.1)))
form_at inner (part c) bytes = after (inner c bytes) (λ x. Ok (nested x.0, x.1))

-- a nested production, where so many may stand in one another
unfoldable pub nested_at : ℕ → Class → Reader
nested_at zero c [] = short
nested_at zero c (b ∷ bytes) = refused FormLimit (b ∷ bytes)
nested_at (suc depth) c bytes = form_at (nested_at depth) (grammar c) bytes

-- a form behind its tag
abbrev pub behind : (Class → Reader) → ℕ → Form → Reader
behind inner k g bytes = after (form_at inner g bytes) (λ x. Ok (tagged k x.0, x.1))

-- What a function returned, seen by view, is what reading finds, unless memory ran out.
abbrev pub Fails : {Y : Type 0} → ReadFault → Result Y Stop → Type 0
Fails (faults.Memory a) found = Unit {0}
Fails (faults.Refused s) found = found ≡ Err s

abbrev pub Gives : {X Y : Type 0} → (X → Y) → Result X ReadFault → Result Y Stop → Type 0
Gives view (Ok x) found = found ≡ Ok (view x)
Gives view (Err e) found = Fails e found

-- The same of a function that takes no memory.
abbrev pub Answers : {X Y : Type 0} → (X → Y) → Result X Stop → Result Y Stop → Type 0
Answers view (Ok x) found = found ≡ Ok (view x)
Answers view (Err s) found = found ≡ Err s
