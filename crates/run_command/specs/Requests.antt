-- Which words ask for a run.
use Rattle.std.specs.Prelude.{ℕ, Bool, ◌&&◌, List, [], ◌∷◌, Option, Some, None, if◌then◌else◌}
use Rattle.command_words.specs.Words.{is_short_name, is_file_name, number_within}

-- run IMAGE F X Y Z STEPS BUFFERS OUT: the file of the image and its entry, how many groups in x, y and z, how many steps
-- each invocation may take, the file of the buffers, and the file that they are put into
pub record RunRequest : Type 0 where
  pub image : List ℕ
  pub entry : List ℕ
  pub groups : List ℕ
  pub steps : ℕ
  pub buffers : List ℕ
  pub out : List ℕ

-- the greatest number of groups along one way, and of steps
abbrev pub group_limit : ℕ
group_limit = 4294967295

abbrev pub step_limit : ℕ
step_limit = 100000000

abbrev pub groups_of : Option ℕ → Option ℕ → Option ℕ → Option (List ℕ)
groups_of (Some x) (Some y) (Some z) = Some (x ∷ y ∷ z ∷ [])
groups_of (Some x) (Some y) None = None
groups_of (Some x) None z = None
groups_of None y z = None

abbrev pub with_numbers : List ℕ → List ℕ → Option (List ℕ) → Option ℕ → List ℕ → List ℕ → Option RunRequest
with_numbers image entry (Some groups) (Some steps) buffers out =
    Some (record { image = image; entry = entry; groups = groups; steps = steps; buffers = buffers; out = out })
with_numbers image entry (Some groups) None buffers out = None
with_numbers image entry None steps buffers out = None

abbrev pub are_names : List ℕ → List ℕ → List ℕ → List ℕ → Bool
are_names image entry buffers out = is_file_name image && is_short_name entry && is_file_name buffers && is_file_name out

abbrev pub request_of : List ℕ → List ℕ → List ℕ → List ℕ → List ℕ → List ℕ → List ℕ → List ℕ → Option RunRequest
request_of image entry x y z steps buffers out =
    if are_names image entry buffers out
    then with_numbers image entry
    (groups_of (number_within group_limit x) (number_within group_limit y) (number_within group_limit z))
    (number_within step_limit steps) buffers out
    else None

-- the request of the words behind `run`
abbrev pub run_of : List (List ℕ) → Option RunRequest
run_of (image ∷ entry ∷ x ∷ y ∷ z ∷ steps ∷ buffers ∷ out ∷ []) = request_of image entry x y z steps buffers out
run_of words = None
