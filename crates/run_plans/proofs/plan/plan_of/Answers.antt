use Rattle.std.proofs.Common.{◌≡◌, ◌<◌, ◌^◌, ◌⊎◌, inl, inr, List, length, map, true, false, refl, sym, ap, ◌∙◌, subst, arith}
use Rattle.spirv_words.specs.declared.images.Instruction.{Instruction}
use Rattle.call_layout.specs.declared.faults.Fault.{Fault}
use Rattle.run_rooms.specs.Rooms.{AreRooms}
use Rattle.run_rooms.specs.Needs.{NeedsTooMuch}
use Rattle.run_rooms.specs.Layout.{rooms_in}
use Rattle.run_plans.specs.declared.base.Ground.{Ground}
use Rattle.run_plans.specs.Ground.{rooms_of, pair_of}
use Rattle.run_plans.specs.Grounds.{AreNarrow, AreNear, IsFar, IsTooLarge}
use Rattle.run_plans.proofs.Reached.{near_or_far}
use Rattle.run_plans.proofs.plan.plan_of.Goals as goal

opened : (code : List Instruction) (g : Ground) → AreRooms code (rooms_in g.places (map pair_of g.buffers)) → AreRooms code (rooms_of g)
unfolding rooms_of
opened code g h = h

pub returns-then-not-are_near-clause-too_large : goal.returns-then-not-are_near-clause-too_large
returns-then-not-are_near-clause-too_large c e =
    let same : c.declarations.result.now ≡ c.args.image.now.instructions = grind arith in
    inr (subst (λ (is : List Instruction). IsFar is) same (c.are_near.ensures.far c.if-not-are_near.true))

pub plan_on-requires-clause-ground : goal.plan_on-requires-clause-ground
plan_on-requires-clause-ground c =
    let code = c.in_ok-places.places.code in
    let pairs = map pair_of c.in_ok-buffers.buffers in
    let there : c.as_slice.result.now ≡ code = sym c.in_ok-places.ensures.code in
    let same : c.args.image.now.instructions ≡ code = grind arith in
    record {
      valid = record { image = c.args.image.now; valid = c.image.ensures.valid; same = same };
      rooms = opened code (record { places = c.in_ok-places.places; buffers = c.in_ok-buffers.buffers; members = c.in_ok-members.members })
          (subst (λ (is : List Instruction). AreRooms is (rooms_in c.in_ok-places.places pairs)) there (c.in_ok-places.ensures.rooms pairs));
      few = subst (λ (is : List Instruction). length is < 2 ^ 32) there c.in_ok-places.ensures.few;
      narrow = subst (λ (is : List Instruction). AreNarrow is) there (record { each = c.in_ok-places.ensures.narrow });
      near = subst (λ (is : List Instruction). AreNear is) c.declarations.ensures (c.are_near.ensures.near c.if-not-are_near.false);
      rows = c.in_ok-members.ensures;
    }

pub returns-clause-enough : goal.returns-clause-enough
returns-clause-enough c = by
  where
    by : IsTooLarge c.args.image.now.instructions → ⊥
    by (inl h) = c.in_ok-places.ensures.enough (subst (λ (is : List Instruction). NeedsTooMuch is) (sym same) h)
      where
        same : c.as_slice.result.now ≡ c.args.image.now.instructions
        same = grind arith
    by (inr h) =
        near_or_far c.declarations.result.now (c.are_near.ensures.near c.if-not-are_near.false) (subst (λ (is : List Instruction). IsFar is) (sym same) h)
      where
        same : c.declarations.result.now ≡ c.args.image.now.instructions
        same = grind arith
