use Rattle.image_facts.proofs.Data.{struct-member, struct-no-member}
use Rattle.image_facts.proofs.laws.members_are_fields.Goals as goal

pub returns : goal.returns
returns c = record { member = struct-member; no_more = struct-no-member }
