use Rattle.kssd_mounted.proofs.Staying.{stands_reading, leaves_image}
use Rattle.kssd_mounted.proofs.Bearing.{collection_stays}
use Rattle.kssd_mounted.proofs.BesideValues.{stands_beside}
use Rattle.kssd_mounted.proofs.keeping.devices_stay.Goals as goal

pub returns : goal.returns
returns c = record { reading = stands_reading; leaves = leaves_image; beside = stands_beside; collection = collection_stays }
