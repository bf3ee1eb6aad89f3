use Rattle.std.proofs.Common.{ℕ, ◌+◌, ◌^◌, ◌<◌, List, length, slice_index, suc, subst, sym}
use Rattle.std.proofs.lemmas.Result.{err_from_is_err_and}
use Rattle.spirv_words.specs.declared.images.Instruction.{Instruction}
use Rattle.image_places.specs.Places.{function_of}
use Rattle.run_rooms.specs.Sums.{before}
use Rattle.run_rooms.specs.Layout.{IsTable, part_in, room_words_at, slot_words_at}
use Rattle.run_rooms.specs.Tables.{ArePlaced}
use Rattle.run_rooms.proofs.Whole.{homes-within, sums-table, slots-within, rooms-within, far-rooms, far-slots, whole}
use Rattle.run_rooms.proofs.tables.counted.Goals as goal

pub offsets_of-requires-clause-known : goal.offsets_of-requires-clause-known
offsets_of-requires-clause-known c = homes-within c.args.definitions.now c.args.homes.now c.requires.homes

pub offsets_of-requires-2-clause-known : goal.offsets_of-requires-2-clause-known
offsets_of-requires-2-clause-known c = homes-within c.args.definitions.now c.args.homes.now c.requires.homes

pub returns-in_err-rooms-clause-too_large : goal.returns-in_err-rooms-clause-too_large
returns-in_err-rooms-clause-too_large c =
    let p = err_from_is_err_and c.from_residual.result c.from_residual.ensures.1 in
    rw (p.1, p.2) (λ e. far-rooms c.args.definitions.now c.args.homes.now c.requires.homes c.args.room_words.now c.requires.keeps c.requires.rooms (c.in_err-rooms.ensures.too_large e))

pub returns-in_err-slots-clause-too_large : goal.returns-in_err-slots-clause-too_large
returns-in_err-slots-clause-too_large c =
    let p = err_from_is_err_and c.from_residual-in_err-slots.result c.from_residual-in_err-slots.ensures.1 in
    rw (p.1, p.2) (λ e. far-slots c.args.definitions.now c.args.homes.now c.requires.homes c.args.slot_words.now c.requires.keeps c.requires.slots (c.in_err-slots.ensures.too_large e))

pub laid-requires-clause-rooms : goal.laid-requires-clause-rooms
laid-requires-clause-rooms c =
    let code : List Instruction = c.args.definitions.now in
    subst (λ (l : List ℕ). IsTable (λ f. before (function_of code) (room_words_at code) f (length code)) (suc (length code)) l) (sym c.as_slice-room_sums.ensures.value)
    (sums-table code c.args.homes.now c.requires.homes (room_words_at code) c.args.room_words.now c.requires.rooms c.in_ok-rooms.rooms.offsets.items c.in_ok-rooms.rooms.sums.items
    c.in_ok-rooms.ensures.offsets)

pub laid-requires-clause-slots : goal.laid-requires-clause-slots
laid-requires-clause-slots c =
    let code : List Instruction = c.args.definitions.now in
    subst (λ (l : List ℕ). IsTable (λ f. before (function_of code) (slot_words_at code) f (length code)) (suc (length code)) l) (sym c.as_slice-slot_sums.ensures.value)
    (sums-table code c.args.homes.now c.requires.homes (slot_words_at code) c.args.slot_words.now c.requires.slots c.in_ok-slots.slots.offsets.items c.in_ok-slots.slots.sums.items
    c.in_ok-slots.ensures.offsets)

pub placed-requires-clause-slots_within : goal.placed-requires-clause-slots_within
placed-requires-clause-slots_within c =
    let ro = c.in_ok-rooms.rooms in
    let so = c.in_ok-slots.slots in
    subst (λ (l : List ℕ). (k : ℕ) → k < length c.args.homes.now → (part_in c.in_ok-parts.parts.items (slice_index c.args.homes.now k)).frame + 2 + slice_index l k < 2 ^ 32)
    (sym c.as_slice-slot_offsets.ensures.value)
    (slots-within c.args.definitions.now c.args.homes.now c.requires.homes c.args.room_words.now c.args.slot_words.now ro.offsets.items so.offsets.items ro.sums.items so.sums.items
    c.requires.rooms c.requires.slots c.in_ok-rooms.ensures.offsets c.in_ok-slots.ensures.offsets c.in_ok-parts.parts.items c.in_ok-parts.ensures.laid)

pub placed-requires-clause-rooms_within : goal.placed-requires-clause-rooms_within
placed-requires-clause-rooms_within c =
    let ro = c.in_ok-rooms.rooms in
    let so = c.in_ok-slots.slots in
    subst (λ (l : List ℕ). (k : ℕ) → k < length c.args.homes.now → (part_in c.in_ok-parts.parts.items (slice_index c.args.homes.now k)).rooms + slice_index l k < 2 ^ 32)
    (sym c.as_slice-room_offsets.ensures.value)
    (rooms-within c.args.definitions.now c.args.homes.now c.requires.homes c.args.room_words.now c.args.slot_words.now ro.offsets.items so.offsets.items ro.sums.items so.sums.items
    c.requires.rooms c.requires.slots c.in_ok-rooms.ensures.offsets c.in_ok-slots.ensures.offsets c.in_ok-parts.parts.items c.in_ok-parts.ensures.laid)

pub returns-clause-layout : goal.returns-clause-layout
returns-clause-layout c =
    let homes = c.args.homes.now in
    let ro = c.in_ok-rooms.rooms in
    let so = c.in_ok-slots.slots in
    let parts = c.in_ok-parts.parts.items in
    let t = c.in_ok-tables.tables in
    whole c.args.definitions.now homes c.requires.homes c.args.room_words.now c.args.slot_words.now ro.offsets.items so.offsets.items ro.sums.items so.sums.items
    c.requires.rooms c.requires.slots c.in_ok-rooms.ensures.offsets c.in_ok-slots.ensures.offsets parts c.in_ok-parts.ensures.laid t
    (subst (λ (l : List ℕ). ArePlaced homes ro.offsets.items l parts t) c.as_slice-slot_offsets.ensures.value
    (subst (λ (l : List ℕ). ArePlaced homes l c.as_slice-slot_offsets.result.now parts t) c.as_slice-room_offsets.ensures.value c.in_ok-tables.ensures))
