-- What was done for a step on words.
use Rattle.std.proofs.Common.{◌≡◌, ℕ, suc, ◌<◌, List, length, Some, slice_get, refl, sym, subst, ◌∙◌}
use Rattle.run_actions.specs.Steps.{FlatTurn, Goes, Reads, Writes, Ends, IsUndefined, IsStuck, Took}
use Rattle.run_actions.specs.declared.turns.Turn.{Turn as Taken}
use Rattle.run_actions.specs.declared.turns.Turn.TheVariants.{Reading, Writing}
use Rattle.run_buffers.specs.declared.buffer.Buffer.{Buffer}
use Rattle.run_plans.specs.declared.base.Bound.{Bound}
use Rattle.spirv_run.specs.declared.turns.Turn.{Turn}
use Rattle.spirv_run.specs.declared.turns.Turn.TheVariants.{Going}
use Rattle.spirv_run.specs.Shared.{lengths_in, put_word}
use Rattle.spirv_run.specs.Parts.{StandsAt, IsRead, IsMoved}

abbrev WasRead : List Bound → List Buffer → ℕ → ℕ → ℕ → List ℕ → List ℕ → Turn → Type 0
WasRead bounds memory n i to words now turn = (b : Bound) (position : ℕ) → slice_get bounds n ≡ Some b → StandsAt memory b position → i < lengths_in memory b.set b.binding
    → to < length words → (turn ≡ Going) × IsRead memory b i to words now

abbrev WasWritten : List Bound → List Buffer → ℕ → ℕ → ℕ → List Buffer → Turn → Type 0
WasWritten bounds before n i w after turn = (b : Bound) (position : ℕ) → slice_get bounds n ≡ Some b → StandsAt before b position
    → (turn ≡ Going) × (after ≡ put_word before b.set b.binding i w)

pub moved_by_read : (bounds : List Bound) (f : FlatTurn) (at : ℕ) (words mid now : List ℕ) (memory : List Buffer) (taken : Taken) (turn : Turn) (next n i to : ℕ)
    → Took f taken words mid → taken ≡ Reading n i to → next ≡ suc at → WasRead bounds memory n i to mid now turn
    → IsMoved bounds f at words memory turn next now memory
moved_by_read bounds (Goes place ws) at words mid now memory taken turn next n i to took is after read = absurd (let t = took.0 in cc)
moved_by_read bounds (Reads m j target) at words mid now memory taken turn next n i to took is after read =
    let same : Reading m j target ≡ Reading n i to = sym took.0 ∙ is in
    let n_is : n ≡ m = cc in
    let i_is : i ≡ j = cc in
    let to_is : to ≡ target = cc in
    let P : ℕ → ℕ → ℕ → List ℕ → Type 0 = λ a b c ws. WasRead bounds memory a b c ws now turn in
    let moved : WasRead bounds memory m j target words now turn =
    subst (λ (ws : List ℕ). P m j target ws) took.1 (subst (λ (c : ℕ). P m j c mid) to_is (subst (λ (b : ℕ). P m b to mid) i_is (subst (λ (a : ℕ). P a i to mid) n_is read))) in
    λ b position bound stands less inside. let r = moved b position bound stands less inside in (r.0, after, r.1, refl)
moved_by_read bounds (Writes m j w) at words mid now memory taken turn next n i to took is after read = absurd (let t = took.0 in cc)
moved_by_read bounds Ends at words mid now memory taken turn next n i to took is after read = absurd cc
moved_by_read bounds IsUndefined at words mid now memory taken turn next n i to took is after read = absurd cc
moved_by_read bounds IsStuck at words mid now memory taken turn next n i to took is after read = tt

pub moved_by_write : (bounds : List Bound) (f : FlatTurn) (at : ℕ) (words now : List ℕ) (before after : List Buffer) (taken : Taken) (turn : Turn) (next n i w : ℕ)
    → Took f taken words now → taken ≡ Writing n i w → next ≡ suc at → WasWritten bounds before n i w after turn
    → IsMoved bounds f at words before turn next now after
moved_by_write bounds (Goes place ws) at words now before after taken turn next n i w took is behind write = absurd (let t = took.0 in cc)
moved_by_write bounds (Reads m j target) at words now before after taken turn next n i w took is behind write = absurd (let t = took.0 in cc)
moved_by_write bounds (Writes m j v) at words now before after taken turn next n i w took is behind write =
    let same : Writing m j v ≡ Writing n i w = sym took.0 ∙ is in
    let n_is : n ≡ m = cc in
    let i_is : i ≡ j = cc in
    let w_is : w ≡ v = cc in
    let P : ℕ → ℕ → ℕ → Type 0 = λ a b c. WasWritten bounds before a b c after turn in
    let moved : WasWritten bounds before m j v after turn =
    subst (λ (c : ℕ). P m j c) w_is (subst (λ (b : ℕ). P m b w) i_is (subst (λ (a : ℕ). P a i w) n_is write)) in
    λ b position bound stands. let r = moved b position bound stands in (r.0, behind, took.1, r.1)
moved_by_write bounds Ends at words now before after taken turn next n i w took is behind write = absurd cc
moved_by_write bounds IsUndefined at words now before after taken turn next n i w took is behind write = absurd cc
moved_by_write bounds IsStuck at words now before after taken turn next n i w took is behind write = tt
