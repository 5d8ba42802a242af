use Rattle.kfs_objects.proofs.RecordLaws.{read_super_value, read_inode_value, read_entry_value}
use Rattle.kfs_objects.proofs.laws.read_back.Goals as goal

pub returns : goal.returns
returns c = record { supers = read_super_value; inodes = read_inode_value; entries = read_entry_value }
