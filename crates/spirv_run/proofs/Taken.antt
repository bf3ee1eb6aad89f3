-- What the layers below show of a valid image.
use Rattle.std.proofs.Common.{◌≡◌, Option, Some, sym, ap, subst, ◌∙◌}
use Rattle.std.specs.Option.{option_map}
use Rattle.spirv_words.specs.declared.images.Image.{Image}
use Rattle.spirv_words.specs.declared.images.Instruction.{Instruction}
use Rattle.spirv_words.specs.Machine.{Operand}
use Rattle.spirv_words.specs.Runs.{start_place}
use Rattle.image_scopes.proofs.Beginning.{begin}
use Rattle.image_facts.specs.Operands.{Suits, type_id}
use Rattle.image_facts.proofs.Globals.{global-stands}
use Rattle.spirv_check.specs.Valid.{Valid}
use Rattle.run_rooms.specs.Rooms.{Rooms, IsFunction}
use Rattle.run_laws.specs.Together.{StepsTogether, BeginTogether}
use Rattle.run_laws.proofs.Counting.{words_count}
use Rattle.run_laws.proofs.Image.{known, machines_begin}
use Rattle.run_laws.proofs.Steps.{machines_step}
use Rattle.spirv_run.proofs.FirstWords.{HasSizes}

pub steps_together : StepsTogether
steps_together = machines_step

pub begin_together : BeginTogether
begin_together = machines_begin

pub entry_is_function : (image : Image) → Valid image → IsFunction image.instructions (start_place image.instructions)
entry_is_function image v =
    let b = begin image v in
    (b.begun.place, b.start, ap (λ (o : Option Instruction). option_map (λ i. i.op) o) b.begun.stands)

same_operand : (a b : Operand) → Some a ≡ Some b → a ≡ b
same_operand a b e = cc

pub has_sizes : (image : Image) (L : Rooms) → Valid image → HasSizes image.instructions L
has_sizes image L v x o g e =
    let s = global-stands image v x g in
    let same : s.0 ≡ o = same_operand s.0 o (sym s.1 ∙ e) in
    words_count image.instructions L o (type_id image.instructions x) (known image v) (subst (λ (p : Operand). Suits image.instructions p (type_id image.instructions x)) same s.2)
