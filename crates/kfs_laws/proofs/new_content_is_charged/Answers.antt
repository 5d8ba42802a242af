use Rattle.kfs_laws.proofs.Charging.{charge_content, chunks_content}
use Rattle.kfs_laws.proofs.new_content_is_charged.Goals as goal

pub returns : goal.returns
returns c t n was bytes tree file = (charge_content t n was bytes tree file, chunks_content t n was bytes tree file)
