-- The line that is printed: words parted by one space, and a line feed.
use Rattle.std.specs.Prelude.{ℕ, List, [], ◌∷◌, ◌++◌, codes}
use Rattle.std.specs.Fmt.{decimal}
use Rattle.std.specs.List.{flat_map}
use Rattle.slang_names.specs.declared.names.Ref.{Ref}
use Rattle.slang_names.specs.declared.faults.Counted.{Counted}
use Rattle.slang_names.specs.declared.faults.Counted.TheVariants.{Instances, Types, Words as WordsOf, Instruction}
use Rattle.slang_names.specs.declared.faults.LinkCause.{LinkCause}
use Rattle.slang_names.specs.declared.faults.LinkCause.TheVariants as link
use Rattle.slang_names.specs.declared.faults.RunCause.{RunCause}
use Rattle.slang_names.specs.declared.faults.RunCause.TheVariants as input
use Rattle.slang_names.specs.Codes.{code_number, code_name}
use Rattle.slang_names.specs.FormCodes.{form_number, form_name}
use Rattle.spirv_words.specs.Codes.{code_number as image_number, code_name as image_name}
use Rattle.slang_outcomes.specs.declared.outcome.Outcome.{Outcome}
use Rattle.slang_outcomes.specs.declared.outcome.Outcome.TheVariants.{Done, ModuleRefused, LinkRefused, Words, ReadFault, WriteFault, Memory, Undefined, Budget, Absent, FormRefused, ImageRefused, InputRefused}

-- a space before each word
abbrev pub spaced : List (List ℕ) → List ℕ
spaced words = flat_map (λ word. 32 ∷ word) words

abbrev pub line : List ℕ → List (List ℕ) → List ℕ
line first more = (first ++ spaced more) ++ 10 ∷ []

-- a declaration, as `light.Lamp`
abbrev pub dotted : Ref → List ℕ
dotted r = r.module ++ 46 ∷ r.path

abbrev pub counted_word : Counted → List ℕ
counted_word Instances = codes "instances"
counted_word Types = codes "types"
counted_word WordsOf = codes "words"
counted_word Instruction = codes "instruction"

-- the code, the name and the values of a cause
abbrev pub link_words : LinkCause → List (List ℕ)
link_words (link.ModuleCount n) = codes "217" ∷ codes "ModuleCount" ∷ decimal n ∷ []
link_words (link.ModuleTwice a) = codes "201" ∷ codes "ModuleTwice" ∷ a ∷ []
link_words (link.ModuleMissing a b) = codes "202" ∷ codes "ModuleMissing" ∷ a ∷ b ∷ []
link_words (link.Stale a b) = codes "203" ∷ codes "Stale" ∷ a ∷ b ∷ []
link_words (link.ConformsTwice s i a b) = codes "204" ∷ codes "ConformsTwice" ∷ dotted s ∷ dotted i ∷ a ∷ b ∷ []
link_words (link.NoEntry e) = codes "209" ∷ codes "NoEntry" ∷ dotted e ∷ []
link_words (link.TooMany c n) = codes "210" ∷ codes "TooMany" ∷ counted_word c ∷ decimal n ∷ []
link_words (link.TooDeep k) = codes "211" ∷ codes "TooDeep" ∷ k ∷ []
link_words (link.InfiniteType k) = codes "213" ∷ codes "InfiniteType" ∷ k ∷ []
link_words (link.ArrayLength k) = codes "214" ∷ codes "ArrayLength" ∷ k ∷ []
link_words (link.Recursion k c) = codes "212" ∷ codes "Recursion" ∷ k ∷ c ∷ []
link_words (link.DataType p) = codes "218" ∷ codes "DataType" ∷ p ∷ []
link_words (link.BindingClash a b) = codes "215" ∷ codes "BindingClash" ∷ a ∷ b ∷ []
link_words (link.ImageLimit c n) = codes "216" ∷ codes "ImageLimit" ∷ counted_word c ∷ decimal n ∷ []

-- the entry's name is that which was asked for
abbrev pub input_words : List ℕ → RunCause → List (List ℕ)
input_words entry input.NoEntry = codes "506" ∷ codes "NoEntry" ∷ entry ∷ []
input_words entry (input.BufferText p) = codes "504" ∷ codes "BufferText" ∷ decimal p ∷ []
input_words entry (input.DispatchLimit n) = codes "505" ∷ codes "DispatchLimit" ∷ decimal n ∷ []
input_words entry (input.BufferMissing s b) = codes "503" ∷ codes "BufferMissing" ∷ decimal s ∷ decimal b ∷ []

-- the line of an outcome other than Done, of a call that asks for an entry of this name to be run; with WriteFault nothing
-- more is printed
abbrev pub refusal_line : List ℕ → Outcome → List ℕ
refusal_line entry Done = []
refusal_line entry (ModuleRefused home place code) =
    line (codes "refused") (home ∷ decimal (code_number code) ∷ code_name code ∷ decimal place.start ∷ decimal place.end ∷ [])
refusal_line entry (LinkRefused cause) = line (codes "link") (link_words cause)
refusal_line entry Words = line (codes "words") []
refusal_line entry ReadFault = line (codes "read") []
refusal_line entry WriteFault = []
refusal_line entry Memory = line (codes "memory") []
refusal_line entry (Undefined invocation step) = line (codes "undefined") (decimal invocation ∷ decimal step ∷ [])
refusal_line entry (Budget invocation) = line (codes "budget") (decimal invocation ∷ [])
refusal_line entry (Absent name) = line (codes "absent") (name ∷ [])
refusal_line entry (FormRefused name place code) =
    line (codes "form") (name ∷ decimal (form_number code) ∷ form_name code ∷ decimal place ∷ [])
refusal_line entry (ImageRefused place code) = line (codes "image") (decimal (image_number code) ∷ image_name code ∷ decimal place ∷ [])
refusal_line entry (InputRefused cause) = line (codes "input") (input_words entry cause)
