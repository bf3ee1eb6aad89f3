-- From what was read and made to the command's answer.
use Rattle.std.proofs.Common.{◌≡◌, ℕ, ◌+◌, ◌<◌, List, length, replicate, Some, None, refl, arith}
use Rattle.slang_names.specs.declared.names.Ref.{Ref}
use Rattle.slang_store.specs.declared.files.Found.{Found}
use Rattle.slang_store.specs.declared.files.Found.TheVariants.{Bytes, Absent, TooLong}
use Rattle.slang_store.specs.Contents.{Contents}
use Rattle.run_command.specs.Requests.{RunRequest}
use Rattle.run_command.specs.Answers.{Came, Comes}
use Rattle.slang_cli.proofs.Told.{if_puts}
use Rattle.slang_cli.specs.Commands.{Compile, Run, text_name}
use Rattle.slang_cli.specs.Answers.{Answer, Compiles, answer_of, ImageIsTold, IfPuts}
use Rattle.slang_parse.specs.Parsing.{text_limit}
use Rattle.slang_store.specs.Finds.{IsFound}
use Rattle.slang_cli.specs.Outside.{FilesNow, IsTheAnswer}
use Rattle.std.proofs.lemmas.List.{length-replicate}

-- some files of which this is found
some_contents : (limit : ℕ) (name : List ℕ) (found : Found) → (m : Contents) × IsFound limit (m name) found
some_contents limit name (Bytes bytes) = ((λ n. Some bytes.items), refl)
some_contents limit name Absent = ((λ n. None), refl)
some_contents limit name TooLong =
    let long : List ℕ = replicate (limit + 1) 0 in
    let lt : limit < length long = omega (arith, length-replicate {A = ℕ} (limit + 1) 0) in
    ((λ n. Some long), (long, refl, lt))

pub the_answer : (entry : Ref) (image home : List ℕ) (f : FilesNow) (a : Answer) (found : Found) → ((m : Contents) → f.contents ≡ Some m → IsFound text_limit (m (text_name home)) found) → ((m : Contents) → IsFound text_limit (m (text_name home)) found → Compiles m entry image home a) → ((m : Contents) → IsFound text_limit (m (text_name home)) found → IfPuts a (ImageIsTold m home)) → IsTheAnswer (Compile entry image home) f a
the_answer entry image home f a found held compiled told =
    let some = some_contents text_limit (text_name home) found in
    record {
      is = λ m e. compiled m (held m e);
      may = (some.0, compiled some.0 some.1);
      told = λ m e. told m (held m e);
    }

pub the_run : (r : RunRequest) (f : FilesNow) (a : Answer) (c : Came) → ((m : Contents) → f.contents ≡ Some m → Comes m r c) → a ≡ answer_of r c → IsTheAnswer (Run r) f a
the_run r f a c comes e = record {
  is = λ m told. (c, comes m told, e);
  may = (c, e);
  told = λ m told. if_puts a tt;
}
