use Rattle.kssd_image.proofs.ValuePages.{holds_from, holds_again, key_read, size_of_page, one_key}
use Rattle.kssd_image.proofs.values.value_pages_are_spelled.Goals as goal

pub returns : goal.returns
returns c = record { holds = holds_from; again = holds_again; key_read = key_read; size = size_of_page; one_key = one_key }
