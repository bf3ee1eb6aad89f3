use Rattle.std.proofs.Common.{◌≡◌, ℕ, drop}
use Rattle.image_declarations.specs.declared.types.TypeFacts.{TypeFacts}
use Rattle.image_declarations.specs.Types.{known_by, known_after, no_facts, capped}
use Rattle.image_declarations.proofs.types.type_facts.Given as goal

-- the map has what is known so far, with which the rest goes on
abbrev pub invariant-loop-instruction : goal.invariant-loop-instruction
invariant-loop-instruction l =
    (known : ℕ → TypeFacts)
    × (known_after l.definitions (drop l.instruction-index l.definitions) known ≡ known_after l.definitions l.definitions (λ id. no_facts))
    × ((id : ℕ) → known_by l.known id ≡ capped (known id))
