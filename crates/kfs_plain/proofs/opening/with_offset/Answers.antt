use Rattle.kfs_plain.proofs.opening.with_offset.Goals as goal

pub returns : goal.returns
returns c = λ i. record { descriptors = c.in_ok-descriptors.ensures i; descriptions = c.in_ok-descriptions.ensures i }
