use Rattle.std.proofs.Common.{rules}
use Rattle.host.proofs.device.DeviceHostHost.close_by_give.Goals as goal

pub returns-then-not-is_input : goal.returns-then-not-is_input
returns-then-not-is_input g c = record { after = search rules; later = search rules }
