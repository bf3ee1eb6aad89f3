-- A command has at most one answer.
use Rattle.std.proofs.Common.{◌≡◌, ℕ, List, Option, Some, None, refl, sym, ap, ◌∙◌, subst}
use Rattle.slang_names.specs.declared.names.Ref.{Ref}
use Rattle.slang_store.specs.Contents.{Contents}
use Rattle.first_form.specs.declared.shader.Shader.{Shader}
use Rattle.slang_cli.specs.Texts.{FirstForm}
use Rattle.run_command.specs.Requests.{RunRequest}
use Rattle.run_command.specs.Answers.{Came, Comes}
use Rattle.slang_cli.specs.Commands.{Request, Compile, Run}
use Rattle.slang_cli.specs.Answers.{Answer, Refuses, Compiles, absent, not_parsed, not_yet, no_entry, puts, IsAnswer, RunAnswers, answer_of, IsEntry, puts_image}
use Rattle.slang_names.specs.declared.places.Place.{Place}
use Rattle.slang_names.specs.declared.codes.ModuleCode.{ModuleCode}
use Rattle.slang_tree.specs.declared.file.File.{File}
use Rattle.slang_parse.specs.Parsing.{Spells, IsRefused}
use Rattle.tree_form.specs.Forms.{form_of}
use Rattle.slang_outcomes.specs.declared.outcome.Outcome.TheVariants.{ModuleRefused}

-- what is known of texts: each is parsed or refused, in one way
pub record OneText : Type 0 where
  pub not_both : (text : List ℕ) (file : File) (place : Place) (code : ModuleCode) → Spells text file → IsRefused text place code → ⊥
  pub one_file : (text : List ℕ) (a b : File) → Spells text a → Spells text b → a ≡ b
  pub one_refusal : (text : List ℕ) (p q : Place) (a b : ModuleCode) → IsRefused text p a → IsRefused text q b → (p ≡ q) × (a ≡ b)

same_text : {o : Option (List ℕ)} {s t : List ℕ} → o ≡ Some s → o ≡ Some t → s ≡ t
same_text p q = (let e = sym p ∙ q in cc)

no_text : {A : Type 0} {o : Option (List ℕ)} {t : List ℕ} → o ≡ None → o ≡ Some t → A
no_text p q = absurd (let e = sym p ∙ q in cc)

module _ (one : OneText) where
  -- the texts are one, so what is spelled and refused is too
  spelled_here : {o : Option (List ℕ)} {s t : List ℕ} (x : File) → o ≡ Some s → o ≡ Some t → Spells t x → Spells s x
  spelled_here x p q f = subst (λ (text : List ℕ). Spells text x) (sym (same_text p q)) f

  refused_here : {o : Option (List ℕ)} {s t : List ℕ} (place : Place) (code : ModuleCode) → o ≡ Some s → o ≡ Some t → IsRefused t place code → IsRefused s place code
  refused_here place code p q f = subst (λ (text : List ℕ). IsRefused text place code) (sym (same_text p q)) f

  not_spelled : {A : Type 0} {o : Option (List ℕ)} {s t : List ℕ} (x : File) (place : Place) (code : ModuleCode) → o ≡ Some s → o ≡ Some t → Spells s x → IsRefused t place code → A
  not_spelled {s = s} x place code p q f r = absurd (one.not_both s x place code f (refused_here place code p q r))

  file_is : {o : Option (List ℕ)} {s t : List ℕ} (x y : File) → o ≡ Some s → o ≡ Some t → Spells s x → Spells t y → x ≡ y
  file_is {s = s} x y p q f h = one.one_file s x y f (spelled_here y p q h)

  -- what is of no form is of no shader
  not_formed : {A : Type 0} {o : Option (List ℕ)} {s t : List ℕ} (x : File) (y : Shader) → o ≡ Some s → o ≡ Some t → Spells s x → form_of x ≡ None → FirstForm t y → A
  not_formed x y p q f n h = absurd (let e = sym n ∙ (ap form_of (file_is x h.file p q f h.spelled) ∙ h.is) in cc)

  pub shader_is : {o : Option (List ℕ)} {s t : List ℕ} (x y : Shader) → o ≡ Some s → o ≡ Some t → FirstForm s x → FirstForm t y → x ≡ y
  shader_is x y p q f h = let e = sym f.is ∙ (ap form_of (file_is f.file h.file p q f.spelled h.spelled) ∙ h.is) in cc

  same_refusal : (home : List ℕ) {o : Option (List ℕ)} {s t : List ℕ} (p q : Place) (a b : ModuleCode) → o ≡ Some s → o ≡ Some t → IsRefused s p a → IsRefused t q b →
      ◌≡◌ {A = Answer} (Refuses (ModuleRefused home p a)) (Refuses (ModuleRefused home q b))
  same_refusal home {s = s} p q a b e d r z =
      let same = one.one_refusal s p q a b r (refused_here q b e d z) in
      ap (λ (place : Place). Refuses (ModuleRefused home place a)) same.0 ∙ ap (λ (code : ModuleCode). Refuses (ModuleRefused home q code)) same.1

  module _ (m : Contents) (entry : Ref) (image home : List ℕ) where
    pub one_compiled : (a b : Answer) → Compiles m entry image home a → Compiles m entry image home b → a ≡ b
    one_compiled _ _ (absent p) (absent q) = refl
    one_compiled _ _ (absent p) (not_parsed q r) = no_text p q
    one_compiled _ _ (absent p) (not_yet q s f) = no_text p q
    one_compiled _ _ (absent p) (no_entry q f e) = no_text p q
    one_compiled _ _ (absent p) (puts q f e) = no_text p q
    one_compiled _ _ (not_parsed p r) (absent q) = no_text q p
    one_compiled _ _ (not_parsed {place = x} {code = a} p r) (not_parsed {place = y} {code = b} q z) = same_refusal home x y a b p q r z
    one_compiled _ _ (not_parsed {place = x} {code = a} p r) (not_yet {file = y} q s f) = not_spelled y x a q p s r
    one_compiled _ _ (not_parsed {place = x} {code = a} p r) (no_entry q f e) = not_spelled f.file x a q p f.spelled r
    one_compiled _ _ (not_parsed {place = x} {code = a} p r) (puts q f e) = not_spelled f.file x a q p f.spelled r
    one_compiled _ _ (not_yet p s f) (absent q) = no_text q p
    one_compiled _ _ (not_yet {file = y} p s f) (not_parsed {place = x} {code = a} q r) = not_spelled y x a p q s r
    one_compiled _ _ (not_yet p s f) (not_yet q t g) = refl
    one_compiled _ _ (not_yet {file = x} p s f) (no_entry {shader = y} q g e) = not_formed x y p q s f g
    one_compiled _ _ (not_yet {file = x} p s f) (puts {shader = y} q g e) = not_formed x y p q s f g
    one_compiled _ _ (no_entry p f n) (absent q) = no_text q p
    one_compiled _ _ (no_entry p f n) (not_parsed {place = x} {code = a} q r) = not_spelled f.file x a p q f.spelled r
    one_compiled _ _ (no_entry {shader = x} p f n) (not_yet {file = y} q s g) = not_formed y x q p s g f
    one_compiled _ _ (no_entry p f n) (no_entry q g e) = refl
    one_compiled _ _ (no_entry {shader = x} p f n) (puts {shader = y} q g e) =
        absurd (n (subst (λ (s : Shader). IsEntry entry home s) (sym (shader_is x y p q f g)) e))
    one_compiled _ _ (puts p f e) (absent q) = no_text q p
    one_compiled _ _ (puts p f e) (not_parsed {place = x} {code = a} q r) = not_spelled f.file x a p q f.spelled r
    one_compiled _ _ (puts {shader = x} p f e) (not_yet {file = y} q s g) = not_formed y x q p s g f
    one_compiled _ _ (puts {shader = x} p f e) (no_entry {shader = y} q g n) =
        absurd (n (subst (λ (s : Shader). IsEntry entry home s) (shader_is x y p q f g) e))
    one_compiled _ _ (puts {shader = x} p f e) (puts {shader = y} q g d) =
        ap (λ (s : Shader). puts_image image home s) (shader_is x y p q f g)

-- a run comes to one thing at most
abbrev OneRun : Type 0
OneRun = (m : Contents) (r : RunRequest) (a b : Came) → Comes m r a → Comes m r b → a ≡ b

one_run_answer : OneRun → (m : Contents) (r : RunRequest) (a b : Answer) → RunAnswers m r a → RunAnswers m r b → a ≡ b
one_run_answer one m r a b p q = p.2 ∙ (ap (λ (c : Came). answer_of r c) (one m r p.0 q.0 p.1 q.1) ∙ sym q.2)

pub one_answer : OneText → OneRun → (command : Request) (m : Contents) (a b : Answer) → IsAnswer command m a → IsAnswer command m b → a ≡ b
one_answer text run (Compile entry image home) m a b p q = one_compiled text m entry image home a b p q
one_answer text run (Run r) m a b p q = one_run_answer run m r a b p q
