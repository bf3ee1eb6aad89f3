-- From the command's answer to what the words that are put mean.
use Rattle.std.proofs.Common.{◌≡◌, ⊎_elim, ℕ, ◌≤◌, List, [], ◌∷◌, length, Option, Some, refl, sym, ◌∙◌, subst}
use Rattle.behavior.specs.Meanings.{Agree}
use Rattle.slang_names.specs.declared.names.Ref.{Ref}
use Rattle.slang_store.specs.Contents.{Contents, with_entry}
use Rattle.spirv_words.specs.Strings.{IsText}
use Rattle.spirv_words.specs.Words.{CanBeSpelled, image_words}
use Rattle.spirv_words.specs.Runs.{words}
use Rattle.spirv_check.specs.Valid.{Valid}
use Rattle.spirv_check.specs.Entry.{entry_name, group_size}
use Rattle.first_form.specs.declared.shader.Shader.{Shader}
use Rattle.slang_tree.specs.declared.file.File.{File}
use Rattle.first_form.specs.Shaders.{IsShader}
use Rattle.tree_form.specs.Forms.{form_of}
use Rattle.first_image.specs.Source.{source}
use Rattle.first_image.specs.Image.{image_of}
use Rattle.slang_outcomes.specs.declared.outcome.Outcome.{Outcome}
use Rattle.slang_outcomes.specs.declared.outcome.Outcome.TheVariants.{Done, WriteFault}
use Rattle.slang_cli.specs.Commands.{Request, Compile}
use Rattle.slang_cli.specs.Answers.{Answer, Compiles, absent, not_parsed, not_yet, no_entry, puts, IsAnswer, IsTold, ImageIsTold, IfPuts, outcome_of, contents_after}
use Rattle.slang_cli.specs.Outside.{FilesNow, SinkNow, IsHalt, Runs, halted, answered, cut}
use Rattle.slang_cli.proofs.Clauses.{halt_done}
use Rattle.slang_cli.specs.Calls.{Means}
use Rattle.slang_cli.proofs.Told.{read_again}

-- what the layers below say of images and of files
pub record Laws : Type 0 where
  pub agree : (home : List ℕ) (shader : Shader) → Agree (source shader) (words (image_of home shader))
  pub spelled : (home : List ℕ) (shader : Shader) → IsText home → length home ≤ 64 → IsShader shader → CanBeSpelled (image_of home shader)
  pub valid : (home : List ℕ) (shader : Shader) → IsText home → length home ≤ 64 → IsShader shader → Valid (image_of home shader)
  pub name : (home : List ℕ) (shader : Shader) → IsShader shader → entry_name (image_of home shader).instructions ≡ shader.entry
  pub group : (home : List ℕ) (shader : Shader) → IsShader shader → group_size (image_of home shader).instructions ≡ shader.group.x ∷ shader.group.y ∷ shader.group.z ∷ []
  pub shader : (file : File) (shader : Shader) → form_of file ≡ Some shader → IsShader shader
  pub here : (m : Contents) (name bytes : List ℕ) → with_entry m name bytes name ≡ Some bytes

module _ (laws : Laws) (m : Contents) (entry : Ref) (image home : List ℕ) (text : IsText home) (short : length home ≤ 64) where
  compiled_means : {a : Answer} → Compiles m entry image home a → IfPuts a (ImageIsTold m home) → outcome_of a ≡ Done → Means entry image home m (contents_after m a)
  compiled_means (absent p) told e = absurd cc
  compiled_means (not_parsed p r) told e = absurd cc
  compiled_means (not_yet p s f) told e = absurd cc
  compiled_means (no_entry p f n) told e = absurd cc
  compiled_means (puts {text = t} {shader = s} p f is_entry) told e = let is_shader = laws.shader f.file s f.is in record {
    text = t;
    shader = s;
    made = image_of home s;
    written = image_words (image_of home s);
    read = p;
    form = f;
    entry_is = is_entry;
    made_is = refl;
    put = laws.here m image _;
    spelled = record { can_be = laws.spelled home s text short is_shader; are = refl };
    read_again = record { words = read_again home s (told t s p f) (laws.spelled home s text short is_shader); valid = laws.valid home s text short is_shader };
    entry_is_named = laws.name home s is_shader ∙ sym is_entry.path_is;
    group_is = laws.group home s is_shader;
    agree = laws.agree home s;
  }

  told_of : (c : Option Request) (f g : FilesNow) (o n : SinkNow) {result : Outcome} → Runs c f g o n result → f.contents ≡ Some m → c ≡ Some (Compile entry image home) → result ≡ Done
      → (a : Answer) × (Compiles m entry image home a) × IfPuts a (ImageIsTold m home) × (outcome_of a ≡ Done) × (g.contents ≡ Some (contents_after m a))
  told_of c f g o n (halted status h stays p) told e done =
      ⊎_elim (λ all. absurd (halt_done c f g (subst (λ (s : Outcome). IsHalt c f g s) (sym all.1 ∙ done) h))) (λ part. absurd (let x : Done ≡ WriteFault = sym done ∙ part.1 in cc)) p
  told_of c f g o n (answered command a is_c is after p) told e done =
      let same : command ≡ Compile entry image home = (let x = sym is_c ∙ e in cc) in
      let is_a : IsAnswer (Compile entry image home) m a = subst (λ (x : Request). IsAnswer x m a) same (is.is m told) in
      let told_a : IfPuts a (IsTold (Compile entry image home) m) = subst (λ (x : Request). IfPuts a (IsTold x m)) same (is.told m told) in
      ⊎_elim (λ all. (a, is_a, told_a, sym all.1 ∙ done, after m told)) (λ part. absurd (let x : Done ≡ WriteFault = sym done ∙ part.1 in cc)) p
  told_of c f g o n (cut command name bytes line is_c is partly rose taken) told e done = absurd cc

  pub meant : (c : Option Request) (f g : FilesNow) (o n : SinkNow) {result : Outcome} → Runs c f g o n result → f.contents ≡ Some m → c ≡ Some (Compile entry image home) → result ≡ Done → (after : Contents) × (g.contents ≡ Some after) × Means entry image home m after
  meant c f g o n runs told e done =
      let a = told_of c f g o n runs told e done in
      (contents_after m a.0, a.4, compiled_means a.1 a.2 a.3)
