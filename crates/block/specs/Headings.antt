-- What the numbers of a heading stand for.
use Rattle.std.specs.Prelude.{cond, Some, None, Option, ◌==◌}
use Rattle.block.specs.declared.heading.Heading.{Heading}
use Rattle.block.specs.declared.heading.Protocol.{Protocol}
use Rattle.block.specs.declared.heading.Protocol.TheVariants.{LinkService, Scsi, FastAccess, Vendor, Reserved}
use Rattle.block.specs.declared.heading.LinkMessage.{LinkMessage}
use Rattle.block.specs.declared.heading.LinkMessage.TheVariants.{Acknowledgement, LogIn, Pause, Other}

abbrev pub protocol_of : Heading → Protocol
protocol_of h =
    cond (h.protocol == 0) LinkService (cond (h.protocol == 1) Scsi (cond (h.protocol == 2) FastAccess
    (cond (h.protocol == 3) Vendor Reserved)))

-- the message of link service, by its type
abbrev pub link_message_of : Heading → Option LinkMessage
link_message_of h =
    cond (h.protocol == 0)
    (Some (cond (h.kind == 0) Acknowledgement (cond (h.kind == 1) LogIn (cond (h.kind == 2) Pause Other)))) None
