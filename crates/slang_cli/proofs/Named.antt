-- What is known of a command's names.
use Rattle.std.proofs.Common.{◌≡◌, ℕ, ◌<◌, ◌≤◌, Bool, true, false, ◌&&◌, ◌||◌, cond, nat_le, List, [], ◌∷◌, length, codes, IsTrue, Option, Some, None, refl, ap, subst, arith, leb-true, bytes_eq}
use Rattle.std.proofs.lemmas.Bool.Decides.{nat_tests}
use Rattle.std.specs.List.{list_all}
use Rattle.slang_names.specs.declared.names.Ref.{Ref}
use Rattle.slang_names.specs.Letters.{is_digit, is_word_byte, is_name}
use Rattle.spirv_words.specs.Strings.{IsText}
use Rattle.command_words.specs.Words.{is_short_name, is_file_name}
use Rattle.run_command.specs.Requests.{RunRequest, run_of}
use Rattle.std.specs.Option.{option_map}
use Rattle.slang_cli.specs.Commands.{Request, Compile, Run, entry_of, compile_of, compile_words, command_of}

both : (a b : Bool) → (a && b) ≡ true → (a ≡ true) × (b ≡ true)
both true b e = (refl, e)
both false b e = absurd (let x : false ≡ true = e in cc)

some_if : {A : Type 0} (b : Bool) (x : Option A) (y : A) → cond b x None ≡ Some y → (b ≡ true) × (x ≡ Some y)
some_if true x y e = (refl, e)
some_if false x y e = absurd cc

word_byte : (b : ℕ) → is_word_byte b ≡ true → (0 < b) × (b < 256)
word_byte b e = (grind (arith, nat_tests), grind (arith, nat_tests))

word_text : (bs : List ℕ) → list_all is_word_byte bs ≡ true → IsText bs
word_text [] e = tt
word_text (b ∷ bs) e =
    let p = both _ _ e in
    let q = word_byte b p.0 in
    (q.0, q.1, word_text bs p.1)

name_text : (bs : List ℕ) → is_name bs ≡ true → IsText bs
name_text [] e = tt
name_text (b ∷ bs) e =
    let p = both _ _ e in
    let q = word_byte b (ap (λ x. x || is_digit b) p.0) in
    (q.0, q.1, word_text bs p.1)

-- the bytes of a short name
pub short_name : (bs : List ℕ) → IsTrue (is_short_name bs) → IsText bs × (length bs ≤ 64)
short_name bs h =
    let p = both (is_name bs) (nat_le (length bs) 64) h in
    (name_text bs p.0, leb-true (length bs) 64 p.1)

home_of : (r : Option Ref) (image home : List ℕ) (entry : Ref) (image1 home1 : List ℕ) → compile_of r image home ≡ Some (Compile entry image1 home1) → IsTrue (is_short_name home1)
home_of None image home entry image1 home1 e = absurd cc
home_of (Some x) image home entry image1 home1 e =
    let p = some_if (is_file_name image && is_short_name home) (Some (Compile x image home)) (Compile entry image1 home1) e in
    let same : home ≡ home1 = (let s : Some (Compile x image home) ≡ Some (Compile entry image1 home1) = p.1 in cc) in
    subst (λ (h : List ℕ). IsTrue (is_short_name h)) same (both (is_file_name image) (is_short_name home) p.0).1

compile_home : (words : List (List ℕ)) (entry : Ref) (image home : List ℕ) → compile_words words ≡ Some (Compile entry image home) → IsTrue (is_short_name home)
compile_home [] entry image home e = absurd cc
compile_home (a ∷ []) entry image home e = absurd cc
compile_home (a ∷ b ∷ []) entry image home e = absurd cc
compile_home (a ∷ b ∷ c ∷ []) entry image home e = home_of (entry_of a) b c entry image home e
compile_home (a ∷ b ∷ c ∷ d ∷ more) entry image home e = absurd cc

-- a compile has the verb of one
is_compile : (b c : Bool) (x : Option Request) (r : Option RunRequest) (entry : Ref) (image home : List ℕ) → cond b x (cond c (option_map Run r) None) ≡ Some (Compile entry image home) → x ≡ Some (Compile entry image home)
is_compile true c x r entry image home e = e
is_compile false true x None entry image home e = absurd cc
is_compile false true x (Some r) entry image home e = absurd cc
is_compile false false x r entry image home e = absurd cc

-- the module of a command has a short name
pub command_home : (words : List (List ℕ)) (entry : Ref) (image home : List ℕ) → command_of words ≡ Some (Compile entry image home) → IsTrue (is_short_name home)
command_home [] entry image home e = absurd cc
command_home (verb ∷ words) entry image home e =
    compile_home words entry image home (is_compile (bytes_eq verb (codes "compile")) (bytes_eq verb (codes "run")) (compile_words words) (run_of words) entry image home e)
