-- That the bytes of an image tell its words.
use Rattle.std.proofs.Common.{◌≡◌, ℕ, ◌+◌, ◌*◌, ◌<◌, ◌≤◌, ◌^◌, All, List, length, get_or, Fits, w32, Some, Result, Ok, Err, IfOk, OnOk, refl, sym, ap, ◌∙◌, subst, arith}
use Rattle.std.specs.List.{sum_by}
use Rattle.std.proofs.lemmas.List.Elements.{All-from_get_or}
use Rattle.slang_outcomes.specs.declared.outcome.Outcome.{Outcome}
use Rattle.slang_store.specs.Contents.{Contents}
use Rattle.spirv_words.specs.declared.images.Image.{Image}
use Rattle.spirv_words.specs.Words.{image_words, Spells, CanBeSpelled}
use Rattle.spirv_words.specs.Bytes.{bytes_of_words}
use Rattle.spirv_words.proofs.Spelled.{words_of_bytes-bytes_of_words, length-bytes_of_words}
use Rattle.first_form.specs.declared.shader.Shader.{Shader}
use Rattle.first_form.specs.Sizes.{statement_bytes}
use Rattle.slang_cli.specs.Texts.{FirstForm}
use Rattle.first_form.specs.Shaders.{IsShader}
use Rattle.first_image.specs.Image.{image_of}
use Rattle.run_command.specs.Files.{HoldsWords}
use Rattle.slang_cli.specs.Commands.{text_name}
use Rattle.slang_cli.specs.declared.answer.Answer.{Answer as Made}
use Rattle.slang_cli.specs.Answers.{Answer, Refuses, Puts, HasNarrowWords, HasToldWords, ImageIsTold, IfPuts}
use Rattle.slang_tree.specs.declared.file.File.{File}
use Rattle.slang_tokens.specs.declared.tokens.Token.{Token}
use Rattle.slang_tokens.specs.Cutting.{Tokens}
use Rattle.slang_reading.specs.Lexed.{lexed_all}
use Rattle.declaration_grammar.specs.Declarations.{FileAt}
use Rattle.slang_parse.specs.Parsing.{Spells as TextSpells}
use Rattle.tree_form.specs.Forms.{form_of}
use Rattle.slang_cli.specs.Views as view

abbrev pub Narrow : List ℕ → Type 0
Narrow words = All (λ w. w < 2 ^ 32) words

pub if_puts_to : {P Q : Type 0} (a : Answer) → IfPuts a P → (P → Q) → IfPuts a Q
if_puts_to (Refuses status) h f = tt
if_puts_to (Puts name bytes line) h f = f h

pub if_puts : {P : Type 0} (a : Answer) → P → IfPuts a P
if_puts (Refuses status) h = tt
if_puts (Puts name bytes line) h = h

-- a refusal puts nothing
pub refused_puts : (P : Type 0) (a : Answer) (status : Outcome) → a ≡ Refuses status → IfPuts a P
refused_puts P a status e = subst (λ (x : Answer). IfPuts x P) (sym e) tt

pub on_ok_of : {A E P : Type 0} (r : Result A E) → P → OnOk r P
on_ok_of (Ok a) h = h
on_ok_of (Err e) h = tt

-- words that a program holds
pub narrow_at : (words : List ℕ) → ((i : ℕ) → Fits w32 (get_or words i 0)) → Narrow words
narrow_at words h = All-from_get_or (λ w. w < 2 ^ 32) words 0 (λ i l. (h i).fits)

pub narrow_of : (home : List ℕ) (shader : Shader) (name words : List ℕ) → name ≡ home → words ≡ image_words (image_of name shader) → Narrow words → HasNarrowWords home shader
narrow_of home shader name words same e h =
    subst (λ (n : List ℕ). HasNarrowWords n shader) same (record { narrow = subst Narrow e h })

pub all_put : {E : Type 0} (P : Type 0) (r : Result Made E) → OnOk r P → IfOk r (λ a. IfPuts (view.answer a) P)
all_put P (Ok a) h = if_puts (view.answer a) h
all_put P (Err e) h = tt

-- what the layers below say of texts and of images
pub record TextLaws : Type 0 where
  pub one_file : (text : List ℕ) (a b : File) → TextSpells text a → TextSpells text b → a ≡ b
  pub is_shader : (file : File) (shader : Shader) → form_of file ≡ Some shader → IsShader shader
  pub bytes : (text : List ℕ) (tokens : List Token) (file : File) (shader : Shader) → Tokens text tokens → FileAt (lexed_all text tokens) file → form_of file ≡ Some shader → sum_by statement_bytes shader.statements ≤ length text
  pub short : (home : List ℕ) (shader : Shader) → length home ≤ 64 → IsShader shader → 2 * length (image_words (image_of home shader)) ≤ 800 + 7 * sum_by statement_bytes shader.statements

-- a text says one shader at most
one_shader : (laws : TextLaws) (text : List ℕ) (a b : Shader) → FirstForm text a → FirstForm text b → a ≡ b
one_shader laws text a b f g = let e = sym f.is ∙ (ap form_of (laws.one_file text f.file g.file f.spelled g.spelled) ∙ g.is) in cc

-- and no more of it than it has bytes
pub said_bytes : (laws : TextLaws) (text : List ℕ) (s : Shader) → FirstForm text s → sum_by statement_bytes s.statements ≤ length text
said_bytes laws text s f = laws.bytes text f.spelled.tokens f.file s f.spelled.cut f.spelled.spelled f.is

-- the image of the shader that was read
pub told_by : (laws : TextLaws) (m : Contents) (home text : List ℕ) (s : Shader) → m (text_name home) ≡ Some text → FirstForm text s → length home ≤ 64 → HasNarrowWords home s → ImageIsTold m home
told_by laws m home text s held form home_short narrow = λ other x there form_x.
    let same_text : other ≡ text = (let e = sym there ∙ held in cc) in
    let same : s ≡ x = one_shader laws text s x form (subst (λ (t : List ℕ). FirstForm t x) same_text form_x) in
    let bytes = said_bytes laws text s form in
    let limit = form.spelled.short in
    let bound = laws.short home s home_short (laws.is_shader form.file s form.is) in
    let few : length (image_words (image_of home s)) ≤ 4194304 = omega arith in
    subst (λ (p : Shader). HasToldWords home p) same (record { narrow = narrow; few = few })

-- they are read from their bytes again
words_again : (words : List ℕ) (image : Image) → Narrow words → length words ≤ 4194304 → Spells words image → HoldsWords (bytes_of_words words) image
words_again words image narrow few spelled =
    let n = length-bytes_of_words words in
    record {
      short = omega arith;
      whole = omega arith;
      spelled = subst (λ (ws : List ℕ). Spells ws image) (sym (words_of_bytes-bytes_of_words words narrow)) spelled;
    }

pub read_again : (home : List ℕ) (s : Shader) → HasToldWords home s → CanBeSpelled (image_of home s) → HoldsWords (bytes_of_words (image_words (image_of home s))) (image_of home s)
read_again home s told can = words_again (image_words (image_of home s)) (image_of home s) told.narrow.narrow told.few (record { can_be = can; are = refl })
