mod Overlay
