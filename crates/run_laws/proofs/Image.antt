-- What is known of a valid image, with rooms for it and the actions of its instructions.
use Rattle.std.proofs.Common.{◌≡◌, ℕ, ◌<◌, Bool, true, false, cond, List, [], ◌∷◌, length, Option, Some, None, refl, ap, arith}
use Rattle.behavior.specs.Meanings.{Ids}
use Rattle.spirv_words.specs.declared.images.Instruction.{Instruction}
use Rattle.spirv_words.specs.declared.images.Image.{Image}
use Rattle.spirv_words.specs.Machine.{is_some_number, result_of, definition_of}
use Rattle.spirv_words.specs.Words.{AreInstructions}
use Rattle.run_actions.specs.declared.actions.Action.{Action}
use Rattle.image_lookup.specs.Lookups.{operands_in, operands}
use Rattle.image_operands.specs.Memory.{is_pointer_sort}
use Rattle.image_scopes.proofs.Used.{result_is_new}
use Rattle.image_scopes.proofs.Seen.{seen_is_near}
use Rattle.spirv_check.specs.Valid.{Valid}
use Rattle.image_facts.specs.Operands.{type_id, is_local}
use Rattle.image_facts.proofs.Shapes.{shape-pointer}
use Rattle.image_facts.proofs.Values.{local-shape}
use Rattle.typed_runs.proofs.Known.{known as facts_of}
use Rattle.run_rooms.specs.Rooms.{Rooms}
use Rattle.run_laws.specs.Together.{IsPlanned, HaveLengths, BeginTogether}
use Rattle.run_laws.proofs.Known.{Known, IsLocal}
use Rattle.run_laws.proofs.Writing.{Setup}
use Rattle.run_laws.proofs.OuterImage.{more}
use Rattle.run_laws.proofs.Beginning.{begins_together}

-- an instruction that is spelled by words has few operands
few_operands : (code : List Instruction) (t : ℕ) → AreInstructions code → length (operands_in (definition_of code t)) < 65535
few_operands [] t h = omega arith
few_operands (i ∷ is) t h = either (is_some_number (result_of i.op i.operands) t) (few_operands is t h.1)
  where
    either : (b : Bool) → length (operands_in (definition_of is t)) < 65535 → length (operands_in (cond b (Some i) (definition_of is t))) < 65535
    either true l = h.0.short
    either false l = l

module _ (image : Image) (v : Valid image) where
  local_is : (x : ℕ) → is_local image.instructions x ≡ true → IsLocal image.instructions x
  local_is x h =
      let l = local-shape image v x h in
      record {
        form = l.form;
        pointer = ap is_pointer_sort l.pointer;
        class = l.class;
        of = shape-pointer image v (type_id image.instructions x) l.form l.pointer l.is;
        target = l.is;
        plain = l.plain;
        begins = l.begins;
      }

  short : (t : ℕ) → length (operands image.instructions t) < 65535
  unfolding operands
  short t = few_operands image.instructions t v.spelled.instructions

  pub known : Known image.instructions
  known = record {
    facts = facts_of image v;
    result_is_new = λ k i e x r s. result_is_new image v k i e x r s;
    seen_is_near = seen_is_near image v;
    local_is = local_is;
    short = short;
  }

pub setup : (image : Image) (L : Rooms) (actions : List Action) (lengths : ℕ → ℕ → ℕ) (counts : List ℕ) → IsPlanned image L actions
    → HaveLengths image.instructions L lengths counts → Setup image.instructions L lengths counts
setup image L actions lengths counts p have = record { known = known image p.valid; rooms = p.rooms; buffers = p.buffers; have = have }

-- ---- the beginning

pub machines_begin : BeginTogether
machines_begin image L actions ids lengths counts ws p have steady given zeros =
    begins_together image.instructions L ids lengths counts (setup image L actions lengths counts p have) (more image p.valid) ws steady given zeros
