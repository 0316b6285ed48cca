use Rattle.std.proofs.Common.{refl}
use Rattle.console.proofs.Overlay.{overlay_is}
use Rattle.console.proofs.store.setup.overlay.Goals as goal

pub returns : goal.returns
returns c =
    overlay_is c.args.cells.now.items c.deref_mut.result.now c.copy_from_slice.new.self c.args.raw.now c.args.from _ c.args.cells.now.len
    c.deref_mut.ensures.value c.copy_from_slice.ensures.after refl c.args.cells.now.ok.0 c.requires
