use Rattle.image_facts.proofs.Globals.{buffer-stands}
use Rattle.image_facts.proofs.Reaching.{reach-extent}
use Rattle.image_facts.proofs.Buffers.{reached-kind, reached-spaced, buffer-spaced, storage-wraps}
use Rattle.image_facts.proofs.Pairs.{one-buffer}
use Rattle.image_facts.proofs.laws.buffers_are_spaced.Goals as goal

pub returns : goal.returns
returns c = record {
  variable = λ image x v h. let b = buffer-stands image v x h in (b.form, b.pointee, buffer-spaced image v x b.form h b.pointee, b.is);
  part = λ image t s v r h. let k = reached-kind image v t r in (reached-spaced image v t s k r h, reach-extent image v t s k h);
  storage = λ image x v h e. storage-wraps image v x h e;
  one = λ image x y v h g e f. one-buffer image v x y h g e f;
}
