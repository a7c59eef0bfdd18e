use Rattle.router_says.proofs.raised.append_window.Goals as goal

pub returns : goal.returns
returns c = rw c.from.ensures at rw c.from-2.ensures at c.write.ensures.bytes
